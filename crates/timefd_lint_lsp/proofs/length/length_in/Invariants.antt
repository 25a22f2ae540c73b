use Rattle.std.proofs.Common.{◌≡◌, length}
use Rattle.timefd_lint_lsp.specs.Lengths as spec
use Rattle.timefd_lint_lsp.proofs.length.length_in.Given as goal

-- The remaining bytes decide.
abbrev pub invariant-bytes : goal.invariant-bytes
invariant-bytes l = spec.length_from l.begins_line l.rest ≡ spec.length_in l.head

abbrev pub decreases-bytes : goal.decreases-bytes
decreases-bytes l = length l.rest
