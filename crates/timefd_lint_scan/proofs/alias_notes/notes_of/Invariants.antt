use Rattle.std.specs.HashMap.{get}
use Rattle.std.specs.Prelude.{nat_eq}
use Rattle.timefd_lint_scan.specs.AliasNotes.{AreNoted}
use Rattle.timefd_lint_scan.proofs.alias_notes.notes_of.Given as goal

abbrev pub invariant-loop-index : goal.invariant-loop-index
invariant-loop-index l = AreNoted l.source l.list l.index l.notes.items (get nat_eq l.lasts)
