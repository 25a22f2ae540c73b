-- What is kept of the aliases of a source.
use Rattle.std.specs.Prelude.{List, length, nat_eq}
use Rattle.std.specs.HashMap.{get}
use Rattle.timefd_lint_scan.specs.declared.alias.Alias.{Alias}
use Rattle.timefd_lint_scan.specs.declared.alias_notes.AliasNotes.{AliasNotes}
use Rattle.timefd_lint_scan.specs.declared.aliases.Aliases.{Aliases}
use Rattle.timefd_lint_scan.specs.AliasNotes.{AreBegun, AreEnded, AreLasts}
use Rattle.timefd_lint_scan.specs.Bytes.{Text}

-- What is noted is so of these aliases.
pub record IsAliasNotes (source : Text) (all : List Alias) (n : AliasNotes) : Type 0 where
  pub ended : AreEnded source all n.notes.items
  pub begun : AreBegun all 0 n.begins.items
  pub lasts : AreLasts source all (length all) (get nat_eq n.lasts)

pub record AreAliases (source : Text) (aliases : Aliases) : Type 0 where
  pub noted : IsAliasNotes source aliases.list.now aliases.notes.now
