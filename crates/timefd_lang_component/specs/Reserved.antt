-- How many bytes a tree reserves, and how many trees it consists of.
use Rattle.std.specs.Prelude.{ℕ, ◌+◌, nat_le, if◌then◌else◌, Option, Some, None, length}
use Rattle.timefd_modifier.specs.declared.enums.SubsecondDigits.{SubsecondDigits}
use Rattle.timefd_lang_component.specs.declared.component.Component.{Component}
use Rattle.timefd_lang_component.specs.declared.component.Component.TheVariants.{Day, MonthShort, MonthLong, MonthNumerical, Ordinal, WeekdayShort, WeekdayLong, WeekdaySunday, WeekdayMonday, WeekNumberIso, WeekNumberSunday, WeekNumberMonday, CalendarYearFullExtendedRange, CalendarYearFullStandardRange, CalendarYearCenturyExtendedRange, CalendarYearCenturyStandardRange, IsoYearFullExtendedRange, IsoYearFullStandardRange, IsoYearCenturyExtendedRange, IsoYearCenturyStandardRange, CalendarYearLastTwo, IsoYearLastTwo, Hour12, Hour24, Minute, Second, OffsetMinute, OffsetSecond, Period, Subsecond, OffsetHour, UnixTimestampSecond, UnixTimestampMillisecond, UnixTimestampMicrosecond, UnixTimestampNanosecond, Ignore, End}
use Rattle.timefd_lang_component.specs.Tree.{Tree, component, literal, compound, optional, first, Trees, no_trees, more_trees}

-- the greatest number of digits
abbrev pub digits_shown : SubsecondDigits → ℕ
digits_shown SubsecondDigits.One = 1
digits_shown SubsecondDigits.Two = 2
digits_shown SubsecondDigits.Three = 3
digits_shown SubsecondDigits.Four = 4
digits_shown SubsecondDigits.Five = 5
digits_shown SubsecondDigits.Six = 6
digits_shown SubsecondDigits.Seven = 7
digits_shown SubsecondDigits.Eight = 8
digits_shown SubsecondDigits.Nine = 9
digits_shown SubsecondDigits.OneOrMore = 9

-- the length of a component's longest text; no description has a deprecated one
abbrev pub reserved : Component → ℕ
reserved (Day m) = 2
reserved (MonthShort m) = 3
reserved (MonthLong m) = 9
reserved (MonthNumerical m) = 2
reserved (Ordinal m) = 3
reserved (WeekdayShort m) = 3
reserved (WeekdayLong m) = 9
reserved (WeekdaySunday m) = 1
reserved (WeekdayMonday m) = 1
reserved (WeekNumberIso m) = 2
reserved (WeekNumberSunday m) = 2
reserved (WeekNumberMonday m) = 2
reserved (CalendarYearFullExtendedRange m) = 7
reserved (CalendarYearFullStandardRange m) = 5
reserved (CalendarYearCenturyExtendedRange m) = 5
reserved (CalendarYearCenturyStandardRange m) = 3
reserved (IsoYearFullExtendedRange m) = 7
reserved (IsoYearFullStandardRange m) = 5
reserved (IsoYearCenturyExtendedRange m) = 5
reserved (IsoYearCenturyStandardRange m) = 3
reserved (CalendarYearLastTwo m) = 2
reserved (IsoYearLastTwo m) = 2
reserved (Hour12 m) = 2
reserved (Hour24 m) = 2
reserved (Minute m) = 2
reserved (Second m) = 2
reserved (OffsetMinute m) = 2
reserved (OffsetSecond m) = 2
reserved (Period m) = 2
reserved (Subsecond s) = digits_shown s.digits
reserved (OffsetHour m) = 3
reserved (UnixTimestampSecond m) = 15
reserved (UnixTimestampMillisecond m) = 18
reserved (UnixTimestampMicrosecond m) = 21
reserved (UnixTimestampNanosecond m) = 24
reserved (Ignore m) = 0
reserved (End m) = 0
reserved deprecated = 0

abbrev mutual
  pub reserve : Tree → ℕ
  reserve (component c) = reserved c
  reserve (literal bytes) = length bytes
  reserve (compound ts) = reserve_all ts
  reserve (optional format t) = if format then reserve t else 0
  reserve (first ts) = reserve_first ts

  pub reserve_all : Trees → ℕ
  reserve_all no_trees = 0
  reserve_all (more_trees t ts) = reserve t + reserve_all ts

  pub reserve_first : Trees → ℕ
  reserve_first no_trees = 0
  reserve_first (more_trees t ts) = reserve t

abbrev mutual
  pub tree_count : Tree → ℕ
  tree_count (component c) = 1
  tree_count (literal bytes) = 1
  tree_count (compound ts) = 1 + trees_count ts
  tree_count (optional format t) = 1 + tree_count t
  tree_count (first ts) = 1 + trees_count ts

  pub trees_count : Trees → ℕ
  trees_count no_trees = 0
  trees_count (more_trees t ts) = tree_count t + trees_count ts

-- this many bytes, if that is at most the limit
abbrev pub within : ℕ → ℕ → Option ℕ
within limit bytes = if nat_le bytes limit then Some bytes else None
