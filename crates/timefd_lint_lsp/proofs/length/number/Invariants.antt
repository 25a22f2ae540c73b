use Rattle.std.proofs.Common.{◌≡◌, length}
use Rattle.timefd_lint_lsp.specs.Lengths as spec
use Rattle.timefd_lint_lsp.proofs.length.number.Given as goal

-- The remaining bytes decide.
abbrev pub invariant-digits : goal.invariant-digits
invariant-digits l = spec.number_from l.value l.rest ≡ spec.number l.bytes

abbrev pub decreases-digits : goal.decreases-digits
decreases-digits l = length l.rest
