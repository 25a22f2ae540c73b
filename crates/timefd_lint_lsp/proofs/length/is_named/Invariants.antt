use Rattle.std.proofs.Common.{◌≡◌, length}
use Rattle.timefd_lint_lsp.specs.Lengths as spec
use Rattle.timefd_lint_lsp.proofs.length.is_named.Given as goal

-- The rest of the name decides.
abbrev pub invariant-letters : goal.invariant-letters
invariant-letters l = spec.begins_with l.name l.rest ≡ spec.is_named l.bytes

abbrev pub decreases-letters : goal.decreases-letters
decreases-letters l = length l.name
