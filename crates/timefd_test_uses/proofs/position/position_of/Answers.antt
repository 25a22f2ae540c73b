use Rattle.std.proofs.Common.{rules, ◌≡◌, ◌<◌, ◌≤◌, ◌+◌, ◌==◌, cond, length, get_or, refl, ap, arith}
use Rattle.std.specs.Fmt.{is_char_start}
use Rattle.timefd_test_uses.proofs.PositionLemmas.{line-next, column-next, first-column, line-fits, column-fits}
use Rattle.timefd_test_uses.proofs.position.position_of.Goals as goal

pub loop-at-init : goal.loop-at-init
loop-at-init c = record {
  before = omega arith;
  line = refl;
  column = first-column;
  line_fits = omega arith;
  column_fits = omega arith;
}

pub loop-at-preserved : goal.loop-at-preserved
loop-at-preserved c =
    let b = get_or c.as_bytes-byte-items.result.now c.loop-at.at 0 in
    let so_far = c.loop-at.invariant in
    let below : c.loop-at.at < length c.args.text.now = search rules in
    let before : c.loop-at.at + 1 ≤ c.args.index = search rules in
    let is : get_or c.as_bytes-byte-items.result.now c.loop-at.at 0 ≡ get_or c.args.text.now
    c.loop-at.at 0 =
    ap (λ s. get_or s c.loop-at.at 0) c.as_bytes-byte-items.ensures.value in
    let line : c.after-position.result.line ≡ c.loop-at.position.line + cond
    (get_or c.as_bytes-byte-items.result.now c.loop-at.at 0 == 10) 1 0 = search rules in
    let column : c.after-position.result.column ≡ cond
    (get_or c.as_bytes-byte-items.result.now c.loop-at.at 0 == 10) 1
    (c.loop-at.position.column + cond
    (is_char_start (get_or c.as_bytes-byte-items.result.now c.loop-at.at 0)) 1 0) =
    search rules in record {
      before = before;
      line = line-next c.args.text.now c.loop-at.at b _ _ below is so_far.line line;
      column = column-next c.args.text.now c.loop-at.at b _ _ below is so_far.column column;
      line_fits = line-fits (b == 10) _ _ c.loop-at.at line so_far.line_fits;
      column_fits = column-fits (b == 10) (is_char_start b) _ _ c.loop-at.at column
          so_far.column_fits;
    }
