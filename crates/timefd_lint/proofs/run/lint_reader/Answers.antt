use Rattle.std.proofs.Common.{◌∙◌, sym}
use Rattle.timefd_lint.specs.Sources.{finder_of}
use Rattle.timefd_lint.proofs.SourcesLemmas.{source_reported}
use Rattle.timefd_lint.proofs.run.lint_reader.Goals as goal

pub returns-then-is_source-clause-reported : goal.returns-then-is_source-clause-reported
returns-then-is_source-clause-reported g c =
    source_reported _ c.args.options.is_whole c.args.options.language c.args.options.comment
    c.args.options.reporting (finder_of c.args.options c.args.name.now) c.args.name.now (g.R.BufferedSource.remaining c.args.reader.now)
    (g.R.BufferedSource.remaining c.lint_source.new.reader) (g.W.Sink.contents c.args.writer.now)
    (g.W.Sink.contents c.lint_source.new.writer) (g.R.BufferedSource.has_failed c.lint_source.new.reader)
    c.lint_source.result
    (sym c.is_source.ensures ∙ c.if-is_source.true) c.lint_source.ensures.reported
