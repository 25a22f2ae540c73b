use Rattle.std.specs.HashMap.{get}
use Rattle.std.specs.Prelude.{nat_eq}
use Rattle.timefd_lint_scan.specs.Following.{AreLasts}
use Rattle.timefd_lint_scan.proofs.following.lasts_of.Given as goal

abbrev pub invariant-loop-index : goal.invariant-loop-index
invariant-loop-index l = AreLasts l.source l.uses l.index (get nat_eq l.lasts)
