-- Descriptions whose texts are read back: each part's text ends where the next one begins.
use Rattle.std.specs.Prelude.{Bool, true, false, ◌&&◌, if◌then◌else◌, [], ◌∷◌}
use Rattle.std.specs.Char.{is_ascii_digit}
use Rattle.timefd_lang_component.specs.declared.component.Component.{Component}
use Rattle.timefd_lang_component.specs.declared.component.Component.TheVariants.{Day, MonthShort, MonthLong, MonthNumerical, Ordinal, WeekdayShort, WeekdayLong, WeekdaySunday, WeekdayMonday, WeekNumberIso, WeekNumberSunday, WeekNumberMonday, CalendarYearFullExtendedRange, CalendarYearFullStandardRange, CalendarYearCenturyExtendedRange, CalendarYearCenturyStandardRange, IsoYearFullExtendedRange, IsoYearFullStandardRange, IsoYearCenturyExtendedRange, IsoYearCenturyStandardRange, CalendarYearLastTwo, IsoYearLastTwo, Hour12, Hour24, Minute, Second, OffsetMinute, OffsetSecond, Period, Subsecond, OffsetHour, UnixTimestampSecond, UnixTimestampMillisecond, UnixTimestampMicrosecond, UnixTimestampNanosecond, Ignore, End}
use Rattle.timefd_lang_component.specs.Modern.{modern}
use Rattle.timefd_lang_component.specs.Tree.{Text, Tree, component, literal, compound, optional, first, Trees, no_trees, more_trees}
use Rattle.timefd_lang_warnings.specs.declared.settled.bound.Bound.{Bound}
use Rattle.timefd_lang_warnings.specs.Settling.Bounds.{bound_of}

-- what is known about the text that follows is enough for a bound
abbrev pub is_enough : Bound → Bound → Bool
is_enough Bound.Anything known = true
is_enough Bound.NoDigit Bound.Anything = false
is_enough Bound.NoDigit Bound.NoDigit = true
is_enough Bound.NoDigit Bound.End = true
is_enough Bound.NoDigit Bound.Never = false
is_enough Bound.End Bound.Anything = false
is_enough Bound.End Bound.NoDigit = false
is_enough Bound.End Bound.End = true
is_enough Bound.End Bound.Never = false
is_enough Bound.Never known = false

-- What is known about a text, given what is known about the text that follows it.

abbrev pub signed_begin : Bool → Bound
signed_begin true = Bound.NoDigit
signed_begin false = Bound.Anything

abbrev pub component_begin : Component → Bound → Bound
component_begin (Day m) known = Bound.Anything
component_begin (MonthShort m) known = Bound.NoDigit
component_begin (MonthLong m) known = Bound.NoDigit
component_begin (MonthNumerical m) known = Bound.Anything
component_begin (Ordinal m) known = Bound.Anything
component_begin (WeekdayShort m) known = Bound.NoDigit
component_begin (WeekdayLong m) known = Bound.NoDigit
component_begin (WeekdaySunday m) known = Bound.Anything
component_begin (WeekdayMonday m) known = Bound.Anything
component_begin (WeekNumberIso m) known = Bound.Anything
component_begin (WeekNumberSunday m) known = Bound.Anything
component_begin (WeekNumberMonday m) known = Bound.Anything
component_begin (CalendarYearFullExtendedRange m) known = signed_begin m.sign_is_mandatory
component_begin (CalendarYearFullStandardRange m) known = signed_begin m.sign_is_mandatory
component_begin (CalendarYearCenturyExtendedRange m) known = signed_begin m.sign_is_mandatory
component_begin (CalendarYearCenturyStandardRange m) known = signed_begin m.sign_is_mandatory
component_begin (IsoYearFullExtendedRange m) known = signed_begin m.sign_is_mandatory
component_begin (IsoYearFullStandardRange m) known = signed_begin m.sign_is_mandatory
component_begin (IsoYearCenturyExtendedRange m) known = signed_begin m.sign_is_mandatory
component_begin (IsoYearCenturyStandardRange m) known = signed_begin m.sign_is_mandatory
component_begin (CalendarYearLastTwo m) known = Bound.Anything
component_begin (IsoYearLastTwo m) known = Bound.Anything
component_begin (Hour12 m) known = Bound.Anything
component_begin (Hour24 m) known = Bound.Anything
component_begin (Minute m) known = Bound.Anything
component_begin (Second m) known = Bound.Anything
component_begin (OffsetMinute m) known = Bound.Anything
component_begin (OffsetSecond m) known = Bound.Anything
component_begin (Period m) known = Bound.NoDigit
component_begin (Subsecond m) known = Bound.Anything
component_begin (OffsetHour m) known = signed_begin m.sign_is_mandatory
component_begin (UnixTimestampSecond m) known = signed_begin m.sign_is_mandatory
component_begin (UnixTimestampMillisecond m) known = signed_begin m.sign_is_mandatory
component_begin (UnixTimestampMicrosecond m) known = signed_begin m.sign_is_mandatory
component_begin (UnixTimestampNanosecond m) known = signed_begin m.sign_is_mandatory
component_begin (Ignore m) known = known
component_begin (End m) known = known
component_begin deprecated known = known

abbrev pub literal_begin : Text → Bound → Bound
literal_begin [] known = known
literal_begin (b ∷ bytes) known = if is_ascii_digit b then Bound.Anything else Bound.NoDigit

abbrev mutual
  pub begin : Tree → Bound → Bound
  begin (component c) known = component_begin (modern c) known
  begin (literal bytes) known = literal_begin bytes known
  begin (compound ts) known = begin_all ts known
  begin (optional format t) known = if format then begin t known else known
  begin (first ts) known = begin_first ts known

  pub begin_all : Trees → Bound → Bound
  begin_all no_trees known = known
  begin_all (more_trees t ts) known = begin t (begin_all ts known)

  pub begin_first : Trees → Bound → Bound
  begin_first no_trees known = known
  begin_first (more_trees t ts) known = begin t known

-- Each part is read back, given what is known about the text after the last one. What writing leaves out
-- might be read, so it isn't settled. Of alternatives, the first one is written and read.
abbrev mutual
  pub settled : Tree → Bound → Bool
  settled (component c) known = is_enough (bound_of (modern c)) known
  settled (literal bytes) known = true
  settled (compound ts) known = settled_all ts known
  settled (optional format t) known = format && settled t known
  settled (first ts) known = settled_first ts known

  pub settled_all : Trees → Bound → Bool
  settled_all no_trees known = true
  settled_all (more_trees t ts) known = settled t (begin_all ts known) && settled_all ts known

  pub settled_first : Trees → Bound → Bool
  settled_first no_trees known = true
  settled_first (more_trees t ts) known = settled t known

-- and nothing follows it
abbrev pub is_settled : Tree → Bool
is_settled t = settled t Bound.End
