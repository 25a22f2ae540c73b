use Rattle.std.proofs.Common.{Some, refl}
use Rattle.timefd_lint.specs.Sources.{finder_of}
use Rattle.timefd_lint.proofs.InMemoryLemmas.{source_of_bytes}
use Rattle.timefd_lint.proofs.found.source_tally.Goals as goal

pub returns-in-Ok-clause-reported : goal.returns-in-Ok-clause-reported
returns-in-Ok-clause-reported g c =
    source_of_bytes (finder_of c.args.options c.args.name.now) c.args.options.reporting c.args.name.now
    (Some c.new-reader.result.bytes.now) (Some c.lint_source.new.reader.bytes.now)
    c.args.old.now _ (g.W.Sink.contents c.args.writer.now) (g.W.Sink.contents c.lint_source.new.writer)
    c.in-Ok.tally c.new-reader.ensures refl c.in-Ok.ensures.reported
