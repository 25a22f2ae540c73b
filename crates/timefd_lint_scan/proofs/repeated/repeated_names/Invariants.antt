use Rattle.std.specs.HashSet.{contains}
use Rattle.std.specs.Prelude.{nat_eq}
use Rattle.timefd_lint_scan.specs.Layouts.{AreNoted}
use Rattle.timefd_lint_scan.proofs.repeated.repeated_names.Given as goal

abbrev pub invariant-loop-index : goal.invariant-loop-index
invariant-loop-index l = AreNoted l.source l.declaring l.pieces l.index (contains nat_eq l.seen) (contains nat_eq l.repeated)
