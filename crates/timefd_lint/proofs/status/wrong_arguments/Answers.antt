use Rattle.std.proofs.Common.{string_bytes}
use Rattle.timefd_lint.specs.Arguments.{IsSentence}
use Rattle.timefd_lint.proofs.StatusLemmas.{said}
use Rattle.timefd_lint.proofs.status.wrong_arguments.Goals as goal

pub returns-in-Ok : goal.returns-in-Ok
returns-in-Ok g c =
    said 2 (IsSentence c.args.error) (string_bytes c.in-Ok.sentence) c.deref.result.now
    (g.E.Sink.contents c.args.errors.now) (g.E.Sink.contents c.reported.new.errors)
    (g.E.Sink.has_failed c.reported.new.errors) c.reported.result c.in-Ok.ensures c.deref.ensures c.reported.ensures
