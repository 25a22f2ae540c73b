-- The modern form of a deprecated component: the component that some of its fields select, with the
-- fields that are left.
use Rattle.std.specs.Prelude.{◌≡◌, Bool, true, false, ⊤}
use Rattle.timefd_modifier.specs.declared.month.Month.{Month as MonthFields}
use Rattle.timefd_modifier.specs.declared.day.Weekday.{Weekday as WeekdayFields}
use Rattle.timefd_modifier.specs.declared.week.WeekNumber.{WeekNumber as WeekNumberFields}
use Rattle.timefd_modifier.specs.declared.clock.Hour.{Hour as HourFields}
use Rattle.timefd_modifier.specs.declared.timestamp.UnixTimestamp.{UnixTimestamp as UnixTimestampFields}
use Rattle.timefd_modifier.specs.declared.year.Year.{Year as YearFields}
use Rattle.timefd_modifier.specs.declared.enums.MonthRepr.{MonthRepr}
use Rattle.timefd_modifier.specs.declared.enums.WeekdayRepr.{WeekdayRepr}
use Rattle.timefd_modifier.specs.declared.enums.WeekNumberRepr.{WeekNumberRepr}
use Rattle.timefd_modifier.specs.declared.enums.UnixTimestampPrecision.{UnixTimestampPrecision}
use Rattle.timefd_modifier.specs.declared.enums.UnixTimestampPrecision.TheVariants.{Second, Millisecond, Microsecond, Nanosecond}
use Rattle.timefd_modifier.specs.declared.enums.YearRepr.{YearRepr}
use Rattle.timefd_modifier.specs.declared.enums.YearRepr.TheVariants.{Full, Century, LastTwo}
use Rattle.timefd_modifier.specs.declared.enums.YearRange.{YearRange}
use Rattle.timefd_modifier.specs.declared.enums.YearRange.TheVariants.{Standard, Extended}
use Rattle.timefd_lang_component.specs.declared.component.Component.{Component}
use Rattle.timefd_lang_component.specs.Tree.{Tree, component, literal, compound, optional, first, Trees, no_trees, more_trees}
use Rattle.timefd_lang_component.specs.declared.component.Component.TheVariants.{MonthShort, MonthLong, MonthNumerical, WeekdayShort, WeekdayLong, WeekdaySunday, WeekdayMonday, WeekNumberIso, WeekNumberSunday, WeekNumberMonday, CalendarYearFullExtendedRange, CalendarYearFullStandardRange, CalendarYearCenturyExtendedRange, CalendarYearCenturyStandardRange, IsoYearFullExtendedRange, IsoYearFullStandardRange, IsoYearCenturyExtendedRange, IsoYearCenturyStandardRange, CalendarYearLastTwo, IsoYearLastTwo, Hour12, Hour24, UnixTimestampSecond, UnixTimestampMillisecond, UnixTimestampMicrosecond, UnixTimestampNanosecond, Month, Weekday, WeekNumber, Hour, UnixTimestamp, Year}

abbrev pub modern_month : MonthRepr → MonthFields → Component
modern_month MonthRepr.Short m = MonthShort (record { case_sensitive = m.case_sensitive })
modern_month MonthRepr.Long m = MonthLong (record { case_sensitive = m.case_sensitive })
modern_month MonthRepr.Numerical m = MonthNumerical (record { padding = m.padding })

abbrev pub modern_weekday : WeekdayRepr → WeekdayFields → Component
modern_weekday WeekdayRepr.Short w = WeekdayShort (record { case_sensitive = w.case_sensitive })
modern_weekday WeekdayRepr.Long w = WeekdayLong (record { case_sensitive = w.case_sensitive })
modern_weekday WeekdayRepr.Sunday w = WeekdaySunday (record { one_indexed = w.one_indexed })
modern_weekday WeekdayRepr.Monday w = WeekdayMonday (record { one_indexed = w.one_indexed })

abbrev pub modern_week_number : WeekNumberRepr → WeekNumberFields → Component
modern_week_number WeekNumberRepr.Iso w = WeekNumberIso (record { padding = w.padding })
modern_week_number WeekNumberRepr.Sunday w = WeekNumberSunday (record { padding = w.padding })
modern_week_number WeekNumberRepr.Monday w = WeekNumberMonday (record { padding = w.padding })

-- the first argument says whether the clock has 12 hours
abbrev pub modern_hour : Bool → HourFields → Component
modern_hour true h = Hour12 (record { padding = h.padding })
modern_hour false h = Hour24 (record { padding = h.padding })

abbrev pub modern_timestamp : UnixTimestampPrecision → UnixTimestampFields → Component
modern_timestamp Second t = UnixTimestampSecond (record { sign_is_mandatory = t.sign_is_mandatory })
modern_timestamp Millisecond t = UnixTimestampMillisecond
    (record { sign_is_mandatory = t.sign_is_mandatory })
modern_timestamp Microsecond t = UnixTimestampMicrosecond
    (record { sign_is_mandatory = t.sign_is_mandatory })
modern_timestamp Nanosecond t = UnixTimestampNanosecond
    (record { sign_is_mandatory = t.sign_is_mandatory })

-- the first argument says whether the year is based on ISO weeks
abbrev pub modern_year : Bool → YearRepr → YearRange → YearFields → Component
modern_year false Full Extended y =
    CalendarYearFullExtendedRange (record {
      padding = y.padding;
      sign_is_mandatory =
          y.sign_is_mandatory;
    })
modern_year false Full Standard y =
    CalendarYearFullStandardRange (record {
      padding = y.padding;
      sign_is_mandatory =
          y.sign_is_mandatory;
    })
modern_year false Century Extended y =
    CalendarYearCenturyExtendedRange
    (record { padding = y.padding; sign_is_mandatory = y.sign_is_mandatory })
modern_year false Century Standard y =
    CalendarYearCenturyStandardRange
    (record { padding = y.padding; sign_is_mandatory = y.sign_is_mandatory })
modern_year false LastTwo range y = CalendarYearLastTwo (record { padding = y.padding })
modern_year true Full Extended y = IsoYearFullExtendedRange
    (record { padding = y.padding; sign_is_mandatory = y.sign_is_mandatory })
modern_year true Full Standard y = IsoYearFullStandardRange
    (record { padding = y.padding; sign_is_mandatory = y.sign_is_mandatory })
modern_year true Century Extended y =
    IsoYearCenturyExtendedRange (record {
      padding = y.padding;
      sign_is_mandatory =
          y.sign_is_mandatory;
    })
modern_year true Century Standard y =
    IsoYearCenturyStandardRange (record {
      padding = y.padding;
      sign_is_mandatory =
          y.sign_is_mandatory;
    })
modern_year true LastTwo range y = IsoYearLastTwo (record { padding = y.padding })

abbrev pub modern : Component → Component
modern (Month m) = modern_month m.repr m
modern (Weekday w) = modern_weekday w.repr w
modern (WeekNumber w) = modern_week_number w.repr w
modern (Hour h) = modern_hour h.is_12_hour_clock h
modern (UnixTimestamp t) = modern_timestamp t.precision t
modern (Year y) = modern_year y.iso_week_based y.repr y.range y
modern c = c

-- Trees whose components are all modern.
abbrev mutual
  pub IsModern : Tree → Type 0
  IsModern (component c) = modern c ≡ c
  IsModern (literal bytes) = ⊤
  IsModern (compound ts) = AreModern ts
  IsModern (optional format t) = IsModern t
  IsModern (first ts) = AreModern ts

  pub AreModern : Trees → Type 0
  AreModern no_trees = ⊤
  AreModern (more_trees t ts) = IsModern t × AreModern ts
