use Rattle.timefd_lint_lsp.specs.Sessions.{AreServed, WritesFrames, at}
use Rattle.timefd_lint_lsp.proofs.session.serve_on.Given as goal

-- Whole frames were written, one for each frame that was read and asked for it.
abbrev pub invariant-frames : goal.invariant-frames
invariant-frames g l = record {
  frames : WritesFrames (g.W.Sink.contents l.fn.sink) (g.W.Sink.contents l.sink);
  served : AreServed l.settings l.fn.server (g.R.Source.remaining l.fn.source) (g.W.Sink.contents l.fn.sink)
      (at (g.R.Source.remaining l.source) (g.W.Sink.contents l.sink) l.server) l.counter;
}
