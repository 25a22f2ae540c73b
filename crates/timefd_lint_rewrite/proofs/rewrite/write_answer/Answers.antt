use Rattle.std.proofs.Common.{sym}
use Rattle.timefd_lint_rewrite.proofs.RewriteLemmas.{answer_placed}
use Rattle.timefd_lint_rewrite.proofs.rewrite.write_answer.Goals as goal

pub returns-clause-positions : goal.returns-clause-positions
returns-clause-positions g c =
    answer_placed c.args.line.now c.args.answer.now c.without_newline-text.result.now
    (g.W.Write.contents c.args.writer.now) (g.W.Write.contents c.keep-2.new.writer)
    (g.W.Write.contents c.keep-3.new.writer) c.keep-3.result c.without_newline-text.ensures
    (sym c.if-eq.ensures) (sym c.if-has_newline.ensures) c.in_ok-keep.ensures.kept c.keep-3.ensures.outcome
    c.keep-3.ensures.kept
