use Rattle.std.proofs.Common.{◌≡◌, ◌+◌, ◌≤◌, take}
use Rattle.std.specs.Fmt.{char_count}
use Rattle.timefd_test_uses.specs.Positions.{newlines, begun_line}
use Rattle.timefd_test_uses.proofs.position.position_of.Given as goal

-- the position after the bytes so far
abbrev pub invariant-loop-at : goal.invariant-loop-at
invariant-loop-at l = record {
  before : l.at ≤ l.index;
  line : l.position.line ≡ newlines (take l.at l.text) + 1;
  column : l.position.column ≡ char_count (begun_line (take l.at l.text)) + 1;
  line_fits : l.position.line ≤ l.at + 1;
  column_fits : l.position.column ≤ l.at + 1;
}
