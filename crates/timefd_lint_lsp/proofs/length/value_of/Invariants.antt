use Rattle.std.proofs.Common.{◌≡◌, length}
use Rattle.timefd_lint_lsp.specs.Lengths as spec
use Rattle.timefd_lint_lsp.proofs.length.value_of.Given as goal

-- The remaining bytes decide.
abbrev pub invariant-bytes : goal.invariant-bytes
invariant-bytes l = spec.value_of l.rest ≡ spec.value_of l.bytes

abbrev pub decreases-bytes : goal.decreases-bytes
decreases-bytes l = length l.rest
