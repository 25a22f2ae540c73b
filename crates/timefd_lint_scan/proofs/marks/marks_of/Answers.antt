use Rattle.std.proofs.Common.{◌∙◌, ◌++◌, ap, rules, arith}
use Rattle.std.specs.Option.{option_to_list}
use Rattle.timefd_lint_scan.specs.Marks as spec
use Rattle.timefd_lint_scan.proofs.EachLemmas.{at_last, one_more_at}
use Rattle.timefd_lint_scan.proofs.marks.marks_of.Goals as goal

pub loop-piece-preserved : goal.loop-piece-preserved
loop-piece-preserved c =
    one_more_at (λ p. option_to_list (spec.mark_at c.args.source.now p)) c.args.pieces.now c.loop-piece.piece-index _
    c.loop-piece.marks.items c.push_any.new.marks.items
    (first_of (search rules, omega (arith, c.loop-piece-test.true)))
    (c.in_ok-push_any.ensures ∙ ap (λ m. c.loop-piece.marks.items ++ option_to_list m) c.mark_at.ensures) c.loop-piece.invariant

pub returns : goal.returns
returns c =
    at_last (λ p. option_to_list (spec.mark_at c.args.source.now p)) c.args.pieces.now c.loop-piece.piece-index c.loop-piece.marks.items
    (first_of (search rules, omega (arith, c.loop-piece-test.false))) c.loop-piece.invariant
