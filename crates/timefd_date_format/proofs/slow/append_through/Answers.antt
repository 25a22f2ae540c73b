use Rattle.timefd_date_format.specs.Written.{shown}
use Rattle.std.proofs.Common.{subst}
use Rattle.timefd_date_format.specs.Appends.{IsAppended}
use Rattle.timefd_date_format.proofs.AppendLemmas.{rest_is, through}
use Rattle.timefd_date_format.proofs.slow.append_through.Goals as goal

pub returns-in-Ok : goal.returns-in-Ok
returns-in-Ok c =
    through (shown c.args.moment.now c.args.component.now) c.args.short.now c.write_component.new.buffer
    c.args.room.now c.append_bytes.new.room c.in-Ok.start c.args.at c.append_bytes.result c.in-Ok.ensures.outcome
    (subst (λ y. IsAppended y c.args.room.now c.args.at c.append_bytes.new.room c.append_bytes.result)
    (rest_is c.write_component.new.buffer c.in-Ok.start) c.append_bytes.ensures)
