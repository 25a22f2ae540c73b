-- What is known before a description, if it is settled.
use Rattle.std.specs.Prelude.{if◌then◌else◌, Option, Some, None}
use Rattle.timefd_lang_component.specs.Tree.{Tree, Trees}
use Rattle.timefd_lang_warnings.specs.declared.settled.bound.Bound.{Bound}
use Rattle.timefd_lang_warnings.specs.Settling.Settled.{begin, begin_all, settled, settled_all}

-- given what is known about the text that follows
abbrev pub reached : Tree → Bound → Option Bound
reached t known = if settled t known then Some (begin t known) else None

abbrev pub reached_all : Trees → Bound → Option Bound
reached_all ts known = if settled_all ts known then Some (begin_all ts known) else None
