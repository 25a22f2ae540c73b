use Rattle.std.proofs.Common.{rules}
use Rattle.timefd_format.proofs.GuessRunLemmas.{of_read, output_alone}
use Rattle.timefd_format.proofs.guess_run.guess_end.Goals as goal

pub returns-in-Ok : goal.returns-in-Ok
returns-in-Ok g c = record {
  run =
      of_read c.args.words.now (g.I.BufferedSource.remaining c.args.input.now)
      (g.W.Sink.contents c.args.output.now)
      (g.W.Sink.contents c.lines_end.new.output) c.lines_end.result c.in-Ok.lines.items c.deref.result.now
      (search rules) c.in-Ok.ensures.lines c.deref.ensures.value c.lines_end.ensures.guesses;
  failed =
      output_alone (g.I.BufferedSource.has_failed c.input_lines.new.input)
      (g.W.Sink.has_failed c.lines_end.new.output) c.lines_end.result c.lines_end.ensures.failed;
}
