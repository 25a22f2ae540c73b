use Rattle.std.proofs.Common.{◌+◌, ◌<◌, ◌≤◌, arith}
use Rattle.timefd_date_moment.specs.Calendar.{days_of_years}
use Rattle.timefd_date_moment.proofs.CalendarLemmas.{first_year, year_found, year_within}
use Rattle.timefd_date_moment.proofs.from_day.year_of_day.Goals as goal

pub years-init : goal.years-init
years-init c = first_year c.args.number c.requires.last

pub years-preserved : goal.years-preserved
years-preserved c =
    let here : days_of_years (c.years.year + 1) ≤ c.args.number =
    omega (arith, c.days_before_year.ensures.value, c.years-test.true) in
    (here, year_within (c.years.year + 1) c.args.number c.requires.last here)

pub returns : goal.returns
returns c =
    let until : c.args.number < days_of_years (c.years.year + 1) =
    omega (arith, c.days_before_year.ensures.value, c.years-test.false) in
    let found = year_found c.years.year c.args.number until c.requires.first in record {
      from = c.years.invariant.0;
      until = found.0;
      first = found.1;
      last = c.years.invariant.1;
    }
