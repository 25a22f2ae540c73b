use Rattle.timefd_lint_rewrite.proofs.RewriteLemmas.{no_text_placed}
use Rattle.timefd_lint_rewrite.proofs.rewrite.rewrite_line.Goals as goal

pub returns-in_default-clause-positions : goal.returns-in_default-clause-positions
returns-in_default-clause-positions g c =
    no_text_placed c.args.change c.args.comment c.args.line.now
    c.without_newline-text.result.now (g.W.Write.contents c.args.writer.now)
    (g.W.Write.contents c.keep-in_default.new.writer) c.keep-in_default.result
    c.without_newline-text.ensures c.if-is_passed_over.ensures c.in_default.ensures.cases.0
    c.keep-in_default.ensures.outcome c.keep-in_default.ensures.kept
