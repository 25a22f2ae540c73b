use Rattle.std.proofs.Common.{refl, arith}
use Rattle.timefd_date_format.proofs.QuickLemmas.{of_date}
use Rattle.timefd_date_format.proofs.quick.append_quickly.Goals as goal
use Rattle.timefd_lang_component.specs.declared.component.Component.TheVariants.{CalendarYearFullExtendedRange, CalendarYearFullStandardRange}

pub returns-in_ok-date-in-CalendarYearFullExtendedRange :
    goal.returns-in_ok-date-in-CalendarYearFullExtendedRange
returns-in_ok-date-in-CalendarYearFullExtendedRange c =
    let shape = CalendarYearFullExtendedRange c.in-CalendarYearFullExtendedRange.m in
    of_date c.args.moment.now c.args.component.now shape c.in_ok-date-in-CalendarYearFullExtendedRange.date
    c.args.room.now c.append_year.new.room c.args.at c.append_year.result c.in-CalendarYearFullExtendedRange.is refl
    c.in_ok-date-in-CalendarYearFullExtendedRange.was (c.append_year.ensures shape 999999 (omega arith))

pub returns-in_ok-date-in-CalendarYearFullStandardRange :
    goal.returns-in_ok-date-in-CalendarYearFullStandardRange
returns-in_ok-date-in-CalendarYearFullStandardRange c =
    let shape = CalendarYearFullStandardRange c.in-CalendarYearFullStandardRange.m in
    of_date c.args.moment.now c.args.component.now shape c.in_ok-date-in-CalendarYearFullStandardRange.date
    c.args.room.now c.append_year-in-CalendarYearFullStandardRange.new.room c.args.at
    c.append_year-in-CalendarYearFullStandardRange.result c.in-CalendarYearFullStandardRange.is refl
    c.in_ok-date-in-CalendarYearFullStandardRange.was
    (c.append_year-in-CalendarYearFullStandardRange.ensures shape 9999 (omega arith))
