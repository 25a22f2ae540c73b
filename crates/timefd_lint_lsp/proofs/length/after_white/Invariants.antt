use Rattle.std.proofs.Common.{◌≡◌, length}
use Rattle.timefd_lint_lsp.specs.Lengths as spec
use Rattle.timefd_lint_lsp.proofs.length.after_white.Given as goal

-- The remaining bytes decide.
abbrev pub invariant-white : goal.invariant-white
invariant-white l = spec.after_white l.rest ≡ spec.after_white l.bytes

abbrev pub decreases-white : goal.decreases-white
decreases-white l = length l.rest
