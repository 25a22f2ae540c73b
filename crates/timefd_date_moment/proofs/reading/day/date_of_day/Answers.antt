use Rattle.std.proofs.Common.{◌≡◌, false, subst}
use Rattle.timefd_date_moment.specs.declared.unix_time.UnixTime.{UnixTime}
use Rattle.timefd_date_moment.specs.Instants.{all_at, is_within}
use Rattle.timefd_date_moment.proofs.ReadingLemmas.DayLemmas.{found, unfound}
use Rattle.timefd_date_moment.proofs.reading.day.date_of_day.Goals as goal

pub returns-in-Ok : goal.returns-in-Ok
returns-in-Ok c =
    let m = c.in-Ok.moment in
    found c.args.day m.date m.time m.offset
    (subst (λ (u : UnixTime). all_at m.date m.time m.offset u) c.midnight.ensures c.in-Ok.ensures.found)

pub returns-in-Err : goal.returns-in-Err
returns-in-Err c =
    unfound c.args.day
    (subst (λ (u : UnixTime). is_within u ≡ false) c.midnight.ensures c.in-Err.ensures.fault.1)
