use Rattle.std.proofs.Common.{◌≡◌, length}
use Rattle.timefd_lint_scan.specs.Layouts as spec
use Rattle.timefd_lint_scan.proofs.fingerprint.fingerprint.Given as goal

-- The number of what is left is the number of everything.
abbrev pub invariant-bytes : goal.invariant-bytes
invariant-bytes l = spec.fingerprint_from l.number l.rest ≡ spec.fingerprint l.fn.text

abbrev pub decreases-bytes : goal.decreases-bytes
decreases-bytes l = length l.rest
