use Rattle.std.proofs.Common.{◌≤◌, length}
use Rattle.timefd_lint_scan.proofs.PieceLemmas.{GoesOn}
use Rattle.timefd_lint_scan.proofs.piece.pieces_of.Given as goal

abbrev pub invariant-tokens : goal.invariant-tokens
invariant-tokens l = record {
  on : GoesOn l.fn.source l.pieces.items l.rest;
  within : length l.rest ≤ length l.fn.source;
}

abbrev pub decreases-tokens : goal.decreases-tokens
decreases-tokens l = length l.rest
