use Rattle.std.proofs.Common.{◌≤◌, length, drop}
use Rattle.timefd_lint_files.specs.Matching.{IsRow}
use Rattle.timefd_lint_files.proofs.matching.add_all.Given as goal

-- The row is that of the tokens from an index on.
abbrev pub invariant-tokens : goal.invariant-tokens
invariant-tokens l = record {
  within : l.from ≤ length l.tokens;
  row : IsRow (drop l.from l.tokens) l.path l.row;
}

abbrev pub decreases-tokens : goal.decreases-tokens
decreases-tokens l = l.from
