use Rattle.std.proofs.Common.{rules, arith}
use Rattle.timefd_lint_scan.specs.Marks as spec
use Rattle.timefd_lint_scan.proofs.EachLemmas.{at_last, one_more_at}
use Rattle.timefd_lint_scan.proofs.marks.unknown_marks.Goals as goal

pub loop-piece-preserved : goal.loop-piece-preserved
loop-piece-preserved c =
    one_more_at (spec.unknown_mark c.args.source.now) c.args.pieces.now c.loop-piece.piece-index _
    c.loop-piece.positions.items c.push_unknown.new.positions.items
    (first_of (search rules, omega (arith, c.loop-piece-test.true)))
    c.in_ok-push_unknown.ensures c.loop-piece.invariant

pub returns : goal.returns
returns c =
    at_last (spec.unknown_mark c.args.source.now) c.args.pieces.now c.loop-piece.piece-index c.loop-piece.positions.items
    (first_of (search rules, omega (arith, c.loop-piece-test.false))) c.loop-piece.invariant
