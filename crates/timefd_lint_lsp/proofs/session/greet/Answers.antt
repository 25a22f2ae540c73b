use Rattle.std.proofs.Common.{rules}
use Rattle.timefd_lint_lsp.proofs.ServedLemmas.{begun, ended, one_more_served}
use Rattle.timefd_lint_lsp.proofs.SessionLemmas.{ended_after, more_written}
use Rattle.timefd_lint_lsp.specs.Sessions.{at}
use Rattle.timefd_lint_lsp.proofs.session.greet.Goals as goal

pub returns-in-Some-clause-frames : goal.returns-in-Some-clause-frames
returns-in-Some-clause-frames g c =
    ended_after (g.W.Sink.contents c.args.sink.now) (g.W.Sink.contents c.greeting.sink)
    (g.W.Sink.contents c.turn.new.sink) c.in-Some.end c.greeting.invariant.frames c.in-Some.ensures.frames

pub returns-in-Some-clause-greeted : goal.returns-in-Some-clause-greeted
returns-in-Some-clause-greeted g c = (
  _,
  ended _ c.args.server.now (g.R.Source.remaining c.args.source.now) (g.W.Sink.contents c.args.sink.now)
      (g.R.Source.remaining c.turn.new.source) (g.W.Sink.contents c.turn.new.sink)
      (at (g.R.Source.remaining c.greeting.source) (g.W.Sink.contents c.greeting.sink) c.greeting.server)
      c.turn.new.server c.greeting.counter c.in-Some.end c.greeting.invariant.served c.in-Some.ensures.turn,
)

pub returns-then-ne-clause-frames : goal.returns-then-ne-clause-frames
returns-then-ne-clause-frames g c =
    more_written (g.W.Sink.contents c.args.sink.now) (g.W.Sink.contents c.greeting.sink)
    (g.W.Sink.contents c.turn.new.sink) c.greeting.invariant.frames (search rules)

pub returns-then-ne-clause-greeted : goal.returns-then-ne-clause-greeted
returns-then-ne-clause-greeted g c = (
  _,
  begun _ c.args.server.now (g.R.Source.remaining c.args.source.now) (g.W.Sink.contents c.args.sink.now)
      (at (g.R.Source.remaining c.greeting.source) (g.W.Sink.contents c.greeting.sink) c.greeting.server)
      (at (g.R.Source.remaining c.turn.new.source) (g.W.Sink.contents c.turn.new.sink) c.turn.new.server)
      c.greeting.counter c.greeting.invariant.served c.greeting.invariant.still (search rules) (search rules),
)

pub greeting-preserved : goal.greeting-preserved
greeting-preserved g c = record {
  frames = more_written (g.W.Sink.contents c.args.sink.now) (g.W.Sink.contents c.greeting.sink)
      (g.W.Sink.contents c.turn.new.sink) c.greeting.invariant.frames (search rules);
  still = search rules;
  served = one_more_served _ c.args.server.now (g.R.Source.remaining c.args.source.now)
      (g.W.Sink.contents c.args.sink.now)
      (at (g.R.Source.remaining c.greeting.source) (g.W.Sink.contents c.greeting.sink) c.greeting.server)
      (at (g.R.Source.remaining c.turn.new.source) (g.W.Sink.contents c.turn.new.sink) c.turn.new.server)
      c.greeting.counter c.greeting.invariant.served (search rules);
}
