use Rattle.std.proofs.Common.{◌∙◌, Err, ap, subst}
use Rattle.timefd_date_format.specs.Outcomes.{IsOutcome}
use Rattle.timefd_date_format.specs.Written.{shown}
use Rattle.timefd_date_format.proofs.LenLemmas.{room_alone}
use Rattle.timefd_date_format.proofs.len.len_in.Goals as goal

pub unreachable-requires : goal.unreachable-requires
unreachable-requires c =
    room_alone c.args.moment c.args.component c.args.buffer.now c.write_component.new.buffer c.requires
    (subst
    (λ r. IsOutcome (shown c.args.moment c.args.component) c.args.buffer.now c.write_component.new.buffer r)
    (c.in-Err-Room.is ∙ ap Err c.in-Err-Room.field-0-is) c.write_component.ensures.outcome)
