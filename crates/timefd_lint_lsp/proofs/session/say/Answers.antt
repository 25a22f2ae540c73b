use Rattle.std.proofs.Common.{◌∙◌, subst}
use Rattle.std.specs.Io.KnownBytes.{Appends}
use Rattle.timefd_lint_lsp.specs.Frames.{framed}
use Rattle.timefd_lint_lsp.proofs.SessionLemmas.{one_written}
use Rattle.timefd_lint_lsp.proofs.session.say.Goals as goal

pub returns-in-Ok-write_frame-clause-frames : goal.returns-in-Ok-write_frame-clause-frames
returns-in-Ok-write_frame-clause-frames g c =
    one_written (g.W.Sink.contents c.args.sink.now) (g.W.Sink.contents c.write_frame.new.sink)
    c.deref.result.now c.in-Ok-write_frame.ensures.bytes

pub returns-in-Ok-write_frame-clause-written : goal.returns-in-Ok-write_frame-clause-written
returns-in-Ok-write_frame-clause-written g c =
    subst (λ content. Appends (g.W.Sink.contents c.args.sink.now) (g.W.Sink.contents c.write_frame.new.sink)
    (framed content))
    (c.deref.ensures ∙ c.in-Ok.ensures) c.in-Ok-write_frame.ensures.bytes
