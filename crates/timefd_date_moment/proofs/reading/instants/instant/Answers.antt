use Rattle.timefd_date_moment.proofs.ReadingLemmas.ValueLemmas.{stamped_instant}
use Rattle.timefd_date_moment.proofs.reading.instants.instant.Goals as goal

pub returns-in-Ok : goal.returns-in-Ok
returns-in-Ok c =
    stamped_instant c.args.fields.now c.instant_read.result c.in-Some.unix c.of.result c.in-Ok.stamped
    c.instant_read.ensures c.in-Some.is c.in-Ok.ensures c.of.ensures
