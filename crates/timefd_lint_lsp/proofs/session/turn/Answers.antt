use Rattle.timefd_lint_lsp.proofs.ServedLemmas.{on_content}
use Rattle.timefd_lint_lsp.proofs.session.turn.Goals as goal

pub returns-in-Ok-Content-clause-turn : goal.returns-in-Ok-Content-clause-turn
returns-in-Ok-Content-clause-turn g c =
    on_content c.args.settings (g.R.Source.remaining c.args.source.now) (g.W.Sink.contents c.args.sink.now)
    (g.R.Source.remaining c.read_frame.new.source) (g.W.Sink.contents c.taken.new.sink) c.args.server.now
    c.taken.new.server c.in-Ok-Content.field-0 c.in-Ok-Content.content c.deref.result.now c.taken.result
    c.in-Ok-Content.field-0-is c.deref.ensures.value
    c.in-Ok-Content.ensures.frame c.taken.ensures.answered
