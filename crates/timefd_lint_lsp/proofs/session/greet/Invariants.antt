use Rattle.std.proofs.Common.{◌≡◌}
use Rattle.timefd_lint_lsp.specs.Servers.{first}
use Rattle.timefd_lint_lsp.specs.Sessions.{AreServed, WritesFrames, at}
use Rattle.timefd_lint_lsp.proofs.session.greet.Given as goal

-- Whole frames were written, one for each frame that was read and asked for it, and none was the first `initialize`.
abbrev pub invariant-greeting : goal.invariant-greeting
invariant-greeting g l = record {
  frames : WritesFrames (g.W.Sink.contents l.fn.sink) (g.W.Sink.contents l.sink);
  still : l.server.phase ≡ first;
  served : AreServed l.nothing l.fn.server (g.R.Source.remaining l.fn.source) (g.W.Sink.contents l.fn.sink)
      (at (g.R.Source.remaining l.source) (g.W.Sink.contents l.sink) l.server) l.counter;
}
