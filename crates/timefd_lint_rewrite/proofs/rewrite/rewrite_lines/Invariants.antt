use Rattle.std.proofs.Common.{◌≡◌}
use Rattle.timefd_lint_rewrite.proofs.RewriteLemmas.{AreUpTo}
use Rattle.timefd_lint_rewrite.proofs.rewrite.rewrite_lines.Given as goal

-- The lines that were read are written, and there was one step for each of them.
abbrev pub invariant-lines : goal.invariant-lines
invariant-lines g l = record {
  so_far : AreUpTo l.change l.comment (g.R.Read.remaining l.fn.reader)
      (g.R.Read.remaining l.reader) (g.W.Write.contents l.fn.writer) (g.W.Write.contents l.writer)
      l.counts;
  turns : l.counts.lines ≡ l._line;
}
