use Rattle.std.proofs.Common.{ℕ, ◌≡◌, sym, subst}
use Rattle.timefd_date_moment.specs.declared.date.Date.{Date}
use Rattle.timefd_date_moment.specs.Moments.{day_number}
use Rattle.timefd_date_moment.specs.declared.reading.way.DateWay.{DateWay}
use Rattle.timefd_date_moment.specs.Reading.Dates.{Selects}
use Rattle.timefd_date_moment.specs.Reading.Ways.{WayHas}
use Rattle.timefd_date_moment.proofs.ReadingLemmas.DateLemmas.{by_iso_week}
use Rattle.timefd_date_moment.proofs.reading.dates.date_in.Goals as goal

pub returns-in-IsoWeek : goal.returns-in-IsoWeek
returns-in-IsoWeek c =
    let w = c.in-IsoWeek in
    let r = c.date_of_day-in-IsoWeek.result in
    subst (λ (way : DateWay). Selects (WayHas way) r) (sym w.is)
    (by_iso_week w.years w.week w.weekday r
    (subst (λ (n : ℕ). Selects (λ (d : Date). day_number d ≡ n) r) c.iso_week_day.ensures.value c.date_of_day-in-IsoWeek.ensures))
