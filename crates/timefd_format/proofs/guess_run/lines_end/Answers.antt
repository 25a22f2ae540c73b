use Rattle.timefd_bin_streams.specs.Words.{bytes_of}
use Rattle.timefd_format.proofs.GuessRunLemmas.{of_lines}
use Rattle.timefd_format.proofs.guess_run.lines_end.Goals as goal

pub returns-in-Ok : goal.returns-in-Ok
returns-in-Ok g c = record {
  guesses =
      of_lines c.in-Ok.words.items c.deref.result.now (bytes_of c.args.lines.now)
      (g.W.Sink.contents c.args.output.now) (g.W.Sink.contents c.end_of.new.output) c.end_of.result
      c.in-Ok.ensures c.deref.ensures.value c.end_of.ensures.guesses;
  failed = c.end_of.ensures.failed;
}
