use Rattle.std.proofs.Common.{ap, ◌∙◌, ◌+◌}
use Rattle.std.proofs.lemmas.Result.{err_from_is_err_and}
use Rattle.timefd_lint_rewrite.proofs.RewriteLemmas.{cut_short, none_yet, one_more, too_long}
use Rattle.timefd_lint_rewrite.proofs.rewrite.rewrite_lines.Goals as goal

pub lines-init : goal.lines-init
lines-init g c = record {
  so_far = none_yet c.args.change c.args.comment (g.R.Read.remaining c.args.reader.now)
      (g.W.Write.contents c.args.writer.now) c.new-counts.result c.new-counts.ensures;
  turns = ap (λ x. x.lines) c.new-counts.ensures;
}

pub returns-in_err-rewrite_next-clause-cut_short :
    goal.returns-in_err-rewrite_next-clause-cut_short
returns-in_err-rewrite_next-clause-cut_short g c =
    let p = err_from_is_err_and c.from_residual.result c.from_residual.ensures.1 in
    rw (p.1, p.2)
    (cut_short c.args.change c.args.comment (g.R.Read.remaining c.args.reader.now)
    (g.R.Read.remaining c.lines.reader) (g.W.Write.contents c.args.writer.now)
    (g.W.Write.contents c.lines.writer) (g.W.Write.contents c.rewrite_next.new.writer)
    c.lines.counts c.in_err-rewrite_next.field-0.0 c.lines.invariant.so_far
    c.in_err-rewrite_next.ensures.unwritten)

pub lines-preserved : goal.lines-preserved
lines-preserved g c = record {
  so_far = one_more c.args.change c.args.comment (g.R.Read.remaining c.args.reader.now)
      (g.R.Read.remaining c.lines.reader) (g.R.Read.remaining c.rewrite_next.new.reader)
      (g.W.Write.contents c.args.writer.now) (g.W.Write.contents c.lines.writer)
      (g.W.Write.contents c.rewrite_next.new.writer) c.lines.counts c.with-counts.result
      c.in_ok-rewrite_next.field-0 c.in-Some.outcome c.in-Some.is c.lines.invariant.so_far
      c.in_ok-rewrite_next.ensures.next c.with-counts.ensures;
  turns = ap (λ x. x.lines) c.with-counts.ensures ∙ ap (λ n. n + 1) c.lines.invariant.turns;
}

pub returns-clause-cut_short : goal.returns-clause-cut_short
returns-clause-cut_short g c =
    too_long c.args.change c.args.comment (g.R.Read.remaining c.args.reader.now)
    (g.R.Read.remaining c.lines.reader) (g.W.Write.contents c.args.writer.now)
    (g.W.Write.contents c.lines.writer) c.lines.counts c.lines.invariant.so_far
