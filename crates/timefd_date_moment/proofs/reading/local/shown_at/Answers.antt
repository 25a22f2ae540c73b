use Rattle.timefd_date_moment.proofs.ReadingLemmas.LocalLemmas.{unshown}
use Rattle.timefd_date_moment.proofs.reading.local.shown_at.Goals as goal

pub returns-in-Err : goal.returns-in-Err
returns-in-Err c =
    unshown c.args.unix c.on_clock.result c.args.offset c.on_clock.ensures c.in-Err.ensures.fault.1
