use Rattle.std.proofs.Common.{◌≡◌, string_bytes}
use Rattle.timefd_lint.specs.Folders.{sentence}
use Rattle.timefd_lint.proofs.StatusLemmas.{said}
use Rattle.timefd_lint.proofs.status.walk_failed.Goals as goal

pub returns-in-Ok : goal.returns-in-Ok
returns-in-Ok g c =
    said 4 (λ s. s ≡ sentence c.args.path.now c.args.reason) (string_bytes c.in-Ok.sentence) c.deref.result.now
    (g.E.Sink.contents c.args.errors.now) (g.E.Sink.contents c.reported.new.errors)
    (g.E.Sink.has_failed c.reported.new.errors) c.reported.result c.in-Ok.ensures c.deref.ensures c.reported.ensures
