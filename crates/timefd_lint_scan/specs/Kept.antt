-- What is kept of the tokens of a source.
use Rattle.std.specs.Prelude.{length, nat_eq, List}
use Rattle.std.specs.HashSet.{contains}
use Rattle.timefd_lint_scan.specs.declared.layout.TokenLayout.{TokenLayout}
use Rattle.timefd_lint_scan.specs.declared.piece.PlacedToken.{PlacedToken}
use Rattle.timefd_lint_scan.specs.declared.repeated.Declaring.TheVariants.{Surely, Maybe}
use Rattle.timefd_lint_scan.specs.Bytes.{Text}
use Rattle.timefd_lint_scan.specs.Layouts.{AreBegins, AreEnds, AreRepeated}

-- What is noted is so of these tokens.
pub record IsLayout (source : Text) (ps : List PlacedToken) (l : TokenLayout) : Type 0 where
  pub items : AreRepeated source Surely ps (length ps) (contains nat_eq l.items)
  pub variables : AreRepeated source Maybe ps (length ps) (contains nat_eq l.variables)
  pub ends : AreEnds source ps l.ends.items
  pub begins : AreBegins source ps l.begins.items
