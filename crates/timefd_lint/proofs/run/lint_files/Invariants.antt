use Rattle.std.proofs.Common.{length}
use Rattle.timefd_lint.specs.Files.{IsOpenedBy}
use Rattle.timefd_lint.proofs.FilesLemmas.{IsRunTo}
use Rattle.timefd_lint.proofs.run.lint_files.Given as goal

-- The remaining names decide.
abbrev pub invariant-names : goal.invariant-names
invariant-names g l =
    IsRunTo (IsOpenedBy (g.S.FileOpener.opens l.source) g.S.Opened.BufferedSource.has_failed) (g.S.FileOpener.fails l.source) l.options
    l.fn.options.files.now l.rest (g.I.BufferedSource.remaining l.fn.input) (g.I.BufferedSource.remaining l.input)
    (g.I.BufferedSource.has_failed l.input)
    (g.W.Sink.contents l.fn.writer) (g.W.Sink.contents l.writer) l.tally

abbrev pub decreases-names : goal.decreases-names
decreases-names g l = length l.rest
