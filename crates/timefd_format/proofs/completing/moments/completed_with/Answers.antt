use Rattle.timefd_format.proofs.CompletingLemmas.CompletedLemmas.{with_date}
use Rattle.timefd_format.proofs.completing.moments.completed_with.Goals as goal

pub returns-in-Ok : goal.returns-in-Ok
returns-in-Ok c =
    with_date c.args.fields.now c.clock_fields.result c.args.date c.in-Ok.rest c.clock_fields.ensures c.requires
    c.in-Ok.ensures
