use Rattle.timefd_lint_scan.specs.Looks as spec
use Rattle.timefd_lint_scan.proofs.EachLemmas.{AreSoFar}
use Rattle.std.specs.HashSet.{contains}
use Rattle.std.specs.Prelude.{nat_eq}
use Rattle.timefd_lint_scan.proofs.look.calls_without.Given as goal

abbrev pub invariant-loop-used : goal.invariant-loop-used
invariant-loop-used l = AreSoFar (spec.unread (contains nat_eq l.named) l.has_chrono) l.uses l.used-index l.calls.items
