use Rattle.std.proofs.Common.{arith}
use Rattle.timefd_lint_lsp.proofs.ServedLemmas.{ended, ended_at_most, none_served, one_more_served}
use Rattle.timefd_lint_lsp.proofs.SessionLemmas.{ended_after, more_written, none_written}
use Rattle.timefd_lint_lsp.specs.Sessions.{at}
use Rattle.timefd_lint_lsp.proofs.session.serve_on.Goals as goal

pub frames-init : goal.frames-init
frames-init g c = record {
  frames = none_written (g.W.Sink.contents c.args.sink.now);
  served = none_served c.args.settings (g.R.Source.remaining c.args.source.now) (g.W.Sink.contents c.args.sink.now)
      c.args.server.now;
}

pub returns-in-Some-clause-frames : goal.returns-in-Some-clause-frames
returns-in-Some-clause-frames g c =
    ended_after (g.W.Sink.contents c.args.sink.now) (g.W.Sink.contents c.frames.sink)
    (g.W.Sink.contents c.turn.new.sink) c.in-Some.end c.frames.invariant.frames c.in-Some.ensures.frames

pub returns-in-Some-clause-served : goal.returns-in-Some-clause-served
returns-in-Some-clause-served g c =
    ended c.args.settings c.args.server.now (g.R.Source.remaining c.args.source.now) (g.W.Sink.contents c.args.sink.now)
    (g.R.Source.remaining c.turn.new.source) (g.W.Sink.contents c.turn.new.sink)
    (at (g.R.Source.remaining c.frames.source) (g.W.Sink.contents c.frames.sink) c.frames.server)
    c.turn.new.server c.frames.counter c.in-Some.end c.frames.invariant.served c.in-Some.ensures.turn

pub frames-preserved : goal.frames-preserved
frames-preserved g c = record {
  frames = more_written (g.W.Sink.contents c.args.sink.now) (g.W.Sink.contents c.frames.sink)
      (g.W.Sink.contents c.turn.new.sink) c.frames.invariant.frames c.in-None.ensures.frames;
  served = one_more_served c.args.settings c.args.server.now (g.R.Source.remaining c.args.source.now)
      (g.W.Sink.contents c.args.sink.now)
      (at (g.R.Source.remaining c.frames.source) (g.W.Sink.contents c.frames.sink) c.frames.server)
      (at (g.R.Source.remaining c.turn.new.source) (g.W.Sink.contents c.turn.new.sink) c.turn.new.server)
      c.frames.counter c.frames.invariant.served c.in-None.ensures.turn;
}

pub returns-clause-served : goal.returns-clause-served
returns-clause-served g c =
    ended_at_most c.args.settings c.args.server.now (g.R.Source.remaining c.args.source.now) (g.W.Sink.contents c.args.sink.now)
    (g.R.Source.remaining c.frames.source) (g.W.Sink.contents c.frames.sink) c.frames.server c.frames.counter
    c.frames.invariant.served (omega (arith, c.frames-test.false, c.frames.auto.counter-end))
