use Rattle.std.proofs.Common.{◌≡◌, length}
use Rattle.timefd_lint_scan.specs.OwnCalls as spec
use Rattle.timefd_lint_scan.proofs.own_call.first_named.Given as goal

-- The answer for the rest is the answer for everything.
abbrev pub invariant-calls : goal.invariant-calls
invariant-calls l = spec.first_named l.rest l.owner l.name ≡ spec.first_named l.calls l.owner l.name

abbrev pub decreases-calls : goal.decreases-calls
decreases-calls l = length l.rest
