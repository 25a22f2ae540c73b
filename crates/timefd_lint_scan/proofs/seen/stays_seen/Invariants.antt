use Rattle.std.proofs.Common.{◌≡◌, ◌≤◌, ◌+◌, length}
use Rattle.timefd_lint_scan.specs.Uses as spec
use Rattle.timefd_lint_scan.proofs.seen.stays_seen.Given as goal

-- The answer for the rest is the answer for everything.
abbrev pub invariant-tokens : goal.invariant-tokens
invariant-tokens l = record {
  rest : spec.stays_seen l.source l.name l.position l.depth l.last l.rest
      ≡ spec.stays_seen l.source l.name l.position 0 l.name l.pieces;
  within : l.depth + length l.rest ≤ length l.pieces;
}

abbrev pub decreases-tokens : goal.decreases-tokens
decreases-tokens l = length l.rest
