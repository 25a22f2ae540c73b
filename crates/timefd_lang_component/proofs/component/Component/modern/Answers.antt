use Rattle.timefd_lang_component.specs.declared.component.Component.TheVariants.{Month, Weekday, WeekNumber, Hour, UnixTimestamp, Year}
use Rattle.timefd_lang_component.proofs.ModernLemmas.{modern_again}
use Rattle.timefd_lang_component.proofs.component.Component.modern.Goals as goal

pub returns-in-Month-clause-modern : goal.returns-in-Month-clause-modern
returns-in-Month-clause-modern c = modern_again (Month c.in-Month.month) _ c.modern_month.ensures

pub returns-in-Weekday-clause-modern : goal.returns-in-Weekday-clause-modern
returns-in-Weekday-clause-modern c =
    modern_again (Weekday c.in-Weekday.weekday) _ c.modern_weekday.ensures

pub returns-in-WeekNumber-clause-modern : goal.returns-in-WeekNumber-clause-modern
returns-in-WeekNumber-clause-modern c =
    modern_again (WeekNumber c.in-WeekNumber.week) _ c.modern_week_number.ensures

pub returns-in-Hour-clause-modern : goal.returns-in-Hour-clause-modern
returns-in-Hour-clause-modern c = modern_again (Hour c.in-Hour.hour) _ c.modern_hour.ensures

pub returns-in-UnixTimestamp-clause-modern : goal.returns-in-UnixTimestamp-clause-modern
returns-in-UnixTimestamp-clause-modern c =
    modern_again (UnixTimestamp c.in-UnixTimestamp.timestamp) _ c.modern_timestamp.ensures

pub returns-in-Year-clause-modern : goal.returns-in-Year-clause-modern
returns-in-Year-clause-modern c = modern_again (Year c.in-Year.year) _ c.modern_year.ensures
