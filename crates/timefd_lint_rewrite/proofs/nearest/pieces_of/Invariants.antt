use Rattle.std.proofs.Common.{length}
use denote.Text.{Utf8}
use denote.Shadow.{shadow}
use Rattle.timefd_lint_rewrite.proofs.nearest.pieces_of.Given as goal

abbrev pub invariant-pieces : goal.invariant-pieces
invariant-pieces l = shadow (Utf8 l.rest)

abbrev pub decreases-pieces : goal.decreases-pieces
decreases-pieces l = length l.rest
