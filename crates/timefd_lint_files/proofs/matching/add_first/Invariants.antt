use Rattle.std.proofs.Common.{◌≡◌, drop}
use Rattle.timefd_lint_files.specs.Matching.{takes_none}
use Rattle.timefd_lint_files.proofs.RowLemmas.{IsTurned}
use Rattle.timefd_lint_files.proofs.matching.add_first.Given as goal

-- From a position on, the row is that of all tokens. Before it, the row is still that of the tokens after the
-- first.
abbrev pub invariant-positions : goal.invariant-positions
invariant-positions l = record {
  turned : IsTurned l.first (drop 1 l.tokens) l.path l.row l.at l.fits l.goes_on;
  none : l.takes_none ≡ takes_none l.first;
}

abbrev pub decreases-positions : goal.decreases-positions
decreases-positions l = l.at
