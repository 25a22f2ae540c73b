use Rattle.std.proofs.Common.{length}
use Rattle.std.specs.HashSet.{contains}
use Rattle.std.specs.Prelude.{nat_eq}
use Rattle.timefd_lint_scan.proofs.TakenLemmas.{AreSoFar}
use Rattle.timefd_lint_scan.proofs.look.taken_by.Given as goal

abbrev pub invariant-descriptions : goal.invariant-descriptions
invariant-descriptions l = AreSoFar l.descriptions l.rest (contains nat_eq l.taken)

abbrev pub decreases-descriptions : goal.decreases-descriptions
decreases-descriptions l = length l.rest
