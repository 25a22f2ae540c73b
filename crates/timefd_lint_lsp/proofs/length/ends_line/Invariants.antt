use Rattle.std.proofs.Common.{◌≡◌, length}
use Rattle.timefd_lint_lsp.specs.Lengths as spec
use Rattle.timefd_lint_lsp.proofs.length.ends_line.Given as goal

-- The remaining bytes decide.
abbrev pub invariant-white : goal.invariant-white
invariant-white l = spec.ends_line l.rest ≡ spec.ends_line l.bytes

abbrev pub decreases-white : goal.decreases-white
decreases-white l = length l.rest
