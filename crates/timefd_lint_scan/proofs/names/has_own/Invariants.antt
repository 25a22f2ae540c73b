use Rattle.std.proofs.Common.{length}
use Rattle.timefd_lint_scan.specs.Names.{HasNoOwn}
use Rattle.timefd_lint_scan.proofs.names.has_own.Given as goal

-- If the source has none of the others, it has none of all.
abbrev pub invariant-calls : goal.invariant-calls
invariant-calls l = HasNoOwn l.source l.rest → HasNoOwn l.source l.calls

abbrev pub decreases-calls : goal.decreases-calls
decreases-calls l = length l.rest
