use Rattle.std.proofs.Common.{◌≡◌, ◌≤◌, ◌+◌, length}
use Rattle.timefd_lint_scan.specs.Aliases as spec
use Rattle.timefd_lint_scan.proofs.alias.block_end.Given as goal

-- The answer for the rest is the answer for everything.
abbrev pub invariant-tokens : goal.invariant-tokens
invariant-tokens l = record {
  rest : spec.block_end l.source l.depth l.rest ≡ spec.block_end l.source 0 l.pieces;
  within : l.depth + length l.rest ≤ length l.pieces;
}

abbrev pub decreases-tokens : goal.decreases-tokens
decreases-tokens l = length l.rest
