use Rattle.std.proofs.Common.{◌≡◌, ◌≤◌, ◌+◌, length}
use Rattle.timefd_lint_scan.specs.UsedParts as spec
use Rattle.timefd_lint_scan.proofs.used_part.is_bare.Given as goal

-- The answer for the rest is the answer for everything.
abbrev pub invariant-tokens : goal.invariant-tokens
invariant-tokens l = record {
  rest : spec.is_bare l.source l.pieces l.depth l.hiding l.rest ≡ spec.is_bare l.source l.pieces 0 0 l.tokens;
  within : l.depth + length l.rest ≤ length l.tokens;
  hiding : l.hiding ≤ l.depth;
}

abbrev pub decreases-tokens : goal.decreases-tokens
decreases-tokens l = length l.rest
