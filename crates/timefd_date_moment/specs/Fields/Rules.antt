-- How each component is read.
use Rattle.std.specs.Prelude.{ℕ, ◌≡◌, ◌≤◌, Bool, true, false, ⊤}
use Rattle.timefd_modifier.specs.declared.enums.Padding.{Padding}
use Rattle.timefd_lang_component.specs.declared.component.Component.{Component}
use Rattle.timefd_lang_component.specs.declared.component.Component.TheVariants.{Day, MonthShort, MonthLong, MonthNumerical, Ordinal, WeekdayShort, WeekdayLong, WeekdaySunday, WeekdayMonday, WeekNumberIso, WeekNumberSunday, WeekNumberMonday, CalendarYearFullExtendedRange, CalendarYearFullStandardRange, CalendarYearCenturyExtendedRange, CalendarYearCenturyStandardRange, IsoYearFullExtendedRange, IsoYearFullStandardRange, IsoYearCenturyExtendedRange, IsoYearCenturyStandardRange, CalendarYearLastTwo, IsoYearLastTwo, Hour12, Hour24, Minute, Second, OffsetMinute, OffsetSecond, Period, Subsecond, OffsetHour, UnixTimestampSecond, UnixTimestampMillisecond, UnixTimestampMicrosecond, UnixTimestampNanosecond, Ignore, End}
use Rattle.timefd_date_moment.specs.declared.fields.fields.Count.{Count}
use Rattle.timefd_date_moment.specs.declared.fields.fields.Amount.{Amount}
use Rattle.timefd_date_moment.specs.declared.fields.rule.FieldRule.{FieldRule}
use Rattle.timefd_date_moment.specs.declared.fields.rule.FieldRule.TheVariants as by
use Rattle.timefd_date_moment.specs.declared.fields.rule.NameList.{NameList}
use Rattle.timefd_date_moment.specs.declared.fields.rule.NumberForm.{NumberForm}

-- Without a sign a year has four digits, and a century two. After a sign both may have two more in the
-- extended range.

abbrev pub extended_year : Padding → NumberForm
extended_year padding = record { padding = padding; width = 4; most = 4; most_signed = 6; greatest = 999999 }

abbrev pub standard_year : Padding → NumberForm
standard_year padding = record { padding = padding; width = 4; most = 4; most_signed = 4; greatest = 9999 }

abbrev pub extended_century : Padding → NumberForm
extended_century padding = record { padding = padding; width = 2; most = 2; most_signed = 4; greatest = 9999 }

abbrev pub two : Padding → ℕ → NumberForm
two padding greatest = record { padding = padding; width = 2; most = 2; most_signed = 2; greatest = greatest }

abbrev pub stamp : ℕ → ℕ → NumberForm
stamp most greatest = record { padding = Padding.None; width = 1; most = most; most_signed = most; greatest = greatest }

abbrev pub period_names : Bool → NameList
period_names true = NameList.UpperPeriods
period_names false = NameList.LowerPeriods

-- How a modern component is read: the field, the width, and the least and the greatest number.
abbrev pub rule_of : Component → FieldRule
rule_of (Day m) = by.Number Count.Day m.padding 2 1 31
rule_of (MonthShort m) = by.Name Count.Month NameList.ShortMonths m.case_sensitive 1
rule_of (MonthLong m) = by.Name Count.Month NameList.LongMonths m.case_sensitive 1
rule_of (MonthNumerical m) = by.Number Count.Month m.padding 2 1 12
rule_of (Ordinal m) = by.Number Count.Ordinal m.padding 3 1 366
rule_of (WeekdayShort m) = by.Name Count.Weekday NameList.ShortWeekdays m.case_sensitive 0
rule_of (WeekdayLong m) = by.Name Count.Weekday NameList.LongWeekdays m.case_sensitive 0
rule_of (WeekdaySunday m) = by.Weekday true m.one_indexed
rule_of (WeekdayMonday m) = by.Weekday false m.one_indexed
rule_of (WeekNumberIso m) = by.Number Count.IsoWeek m.padding 2 1 53
rule_of (WeekNumberSunday m) = by.Number Count.SundayWeek m.padding 2 0 53
rule_of (WeekNumberMonday m) = by.Number Count.MondayWeek m.padding 2 0 53
rule_of (CalendarYearFullExtendedRange m) = by.Signed Amount.Year m.sign_is_mandatory (extended_year m.padding)
rule_of (CalendarYearFullStandardRange m) = by.Signed Amount.Year m.sign_is_mandatory (standard_year m.padding)
rule_of (CalendarYearCenturyExtendedRange m) = by.Signed Amount.Century m.sign_is_mandatory (extended_century m.padding)
rule_of (CalendarYearCenturyStandardRange m) = by.Signed Amount.Century m.sign_is_mandatory (two m.padding 99)
rule_of (IsoYearFullExtendedRange m) = by.Signed Amount.IsoYear m.sign_is_mandatory (extended_year m.padding)
rule_of (IsoYearFullStandardRange m) = by.Signed Amount.IsoYear m.sign_is_mandatory (standard_year m.padding)
rule_of (IsoYearCenturyExtendedRange m) = by.Signed Amount.IsoCentury m.sign_is_mandatory (extended_century m.padding)
rule_of (IsoYearCenturyStandardRange m) = by.Signed Amount.IsoCentury m.sign_is_mandatory (two m.padding 99)
rule_of (CalendarYearLastTwo m) = by.Number Count.YearLastTwo m.padding 2 0 99
rule_of (IsoYearLastTwo m) = by.Number Count.IsoYearLastTwo m.padding 2 0 99
rule_of (Hour12 m) = by.Number Count.Hour12 m.padding 2 1 12
rule_of (Hour24 m) = by.Number Count.Hour m.padding 2 0 23
rule_of (Minute m) = by.Number Count.Minute m.padding 2 0 59
rule_of (Second m) = by.Number Count.Second m.padding 2 0 59
rule_of (OffsetMinute m) = by.Number Count.OffsetMinute m.padding 2 0 59
rule_of (OffsetSecond m) = by.Number Count.OffsetSecond m.padding 2 0 59
rule_of (Period m) = by.Period (period_names m.is_uppercase) m.case_sensitive
rule_of (Subsecond m) = by.Fraction m.digits
rule_of (OffsetHour m) = by.Signed Amount.OffsetHour m.sign_is_mandatory (two m.padding 25)
rule_of (UnixTimestampSecond m) = by.Signed Amount.UnixSecond m.sign_is_mandatory (stamp 14 99999999999999)
rule_of (UnixTimestampMillisecond m) = by.Signed Amount.UnixMillisecond m.sign_is_mandatory
    (stamp 17 99999999999999999)
rule_of (UnixTimestampMicrosecond m) = by.Signed Amount.UnixMicrosecond m.sign_is_mandatory
    (stamp 20 99999999999999999999)
rule_of (UnixTimestampNanosecond m) = by.Signed Amount.UnixNanosecond m.sign_is_mandatory
    (stamp 23 99999999999999999999999)
rule_of (Ignore m) = by.Ignore m.count.value
rule_of (End m) = by.End m.trailing_input
rule_of deprecated = by.Deprecated

-- A number has at least one digit, and at most 23.
abbrev pub IsForm : NumberForm → Type 0
IsForm f = (1 ≤ f.width) × (f.width ≤ f.most) × (f.most ≤ f.most_signed) × (f.most_signed ≤ 23)

-- Four digits, padded with zeros.
abbrev pub IsFour : NumberForm → Type 0
IsFour f = (f.padding ≡ Padding.Zero) × (f.width ≡ 4) × (f.most ≡ 4)

abbrev pub IsRule : FieldRule → Type 0
IsRule (by.Number field padding width lowest highest) = (1 ≤ width) × (width ≤ 23) × (highest ≤ 366)
IsRule (by.Name field names is_case_sensitive first) = first ≤ 1
IsRule (by.Signed field is_mandatory form) = IsForm form
IsRule (by.Weekday is_sunday_first is_one_indexed) = ⊤
IsRule (by.Period names is_case_sensitive) = ⊤
IsRule (by.Fraction digits) = ⊤
IsRule (by.Ignore count) = ⊤
IsRule (by.End trailing) = ⊤
IsRule by.Deprecated = ⊤
