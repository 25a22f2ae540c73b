use Rattle.std.specs.Prelude.{IsTrue}
use Rattle.timefd_lint.proofs.ReportedLemmas.{IsRunUpTo}
use Rattle.timefd_lint.proofs.lines.lint_lines.Given as goal

-- The lines that were taken from the reader are reported, and a reader that had failed stays so.
abbrev pub invariant-lines : goal.invariant-lines
invariant-lines g l =
    (IsRunUpTo l.is_first l.options.language l.options.comment l.options.reporting l.name l.line
    (g.R.BufferedSource.remaining l.fn.reader) (g.R.BufferedSource.remaining l.reader)
    (g.W.Sink.contents l.fn.writer) (g.W.Sink.contents l.writer) l.tally)
    × (IsTrue (g.R.BufferedSource.has_failed l.fn.reader) → IsTrue (g.R.BufferedSource.has_failed l.reader))
