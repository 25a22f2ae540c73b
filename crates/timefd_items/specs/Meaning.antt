-- The tree that a description means.
use Rattle.std.specs.Prelude.{ℕ, ◌+◌, Bool, true, false, sum, string_bytes, box_value}
use Rattle.timefd_lang_component.specs.declared.component.Component.TheVariants.{Day, MonthShort, MonthLong, MonthNumerical, Ordinal}
use Rattle.timefd_lang_component.specs.declared.component.Component.TheVariants.{WeekdayShort, WeekdayLong, WeekdaySunday, WeekdayMonday}
use Rattle.timefd_lang_component.specs.declared.component.Component.TheVariants.{WeekNumberIso, WeekNumberSunday, WeekNumberMonday}
use Rattle.timefd_lang_component.specs.declared.component.Component.TheVariants.{CalendarYearFullExtendedRange, CalendarYearFullStandardRange}
use Rattle.timefd_lang_component.specs.declared.component.Component.TheVariants.{CalendarYearCenturyExtendedRange}
use Rattle.timefd_lang_component.specs.declared.component.Component.TheVariants.{CalendarYearCenturyStandardRange, IsoYearFullExtendedRange}
use Rattle.timefd_lang_component.specs.declared.component.Component.TheVariants.{IsoYearFullStandardRange, IsoYearCenturyExtendedRange}
use Rattle.timefd_lang_component.specs.declared.component.Component.TheVariants.{IsoYearCenturyStandardRange, CalendarYearLastTwo}
use Rattle.timefd_lang_component.specs.declared.component.Component.TheVariants.{IsoYearLastTwo, Hour12, Hour24, Minute, Period, Second}
use Rattle.timefd_lang_component.specs.declared.component.Component.TheVariants.{Subsecond, OffsetHour, OffsetMinute, OffsetSecond, Ignore}
use Rattle.timefd_lang_component.specs.declared.component.Component.TheVariants.{UnixTimestampSecond, UnixTimestampMillisecond}
use Rattle.timefd_lang_component.specs.declared.component.Component.TheVariants.{UnixTimestampMicrosecond, UnixTimestampNanosecond, End}
use Rattle.timefd_items.specs.declared.format_description_v3.inner.FormatDescriptionV3Inner.{FormatDescriptionV3Inner}
use Rattle.timefd_items.specs.declared.format_description_v3.inner.FormatDescriptionV3Inner.TheOpen.{FormatDescriptionV3Inner-F}
use Rattle.timefd_items.specs.declared.format_description_v3.inner.FormatDescriptionV3Inner.TheOpen as inner
use Rattle.timefd_items.specs.declared.format_description_v3.inner.FormatDescriptionV3Inner.TheFolds.{fold-FormatDescriptionV3Inner}
use Rattle.timefd_lang_component.specs.Tree.{Tree, component, literal, compound, optional, first, trees}

-- one description, with the tree of each inner one instead of it
abbrev pub inner_step : FormatDescriptionV3Inner-F Tree → Tree
inner_step (inner.Day m) = component (Day m)
inner_step (inner.MonthShort m) = component (MonthShort m)
inner_step (inner.MonthLong m) = component (MonthLong m)
inner_step (inner.MonthNumerical m) = component (MonthNumerical m)
inner_step (inner.Ordinal m) = component (Ordinal m)
inner_step (inner.WeekdayShort m) = component (WeekdayShort m)
inner_step (inner.WeekdayLong m) = component (WeekdayLong m)
inner_step (inner.WeekdaySunday m) = component (WeekdaySunday m)
inner_step (inner.WeekdayMonday m) = component (WeekdayMonday m)
inner_step (inner.WeekNumberIso m) = component (WeekNumberIso m)
inner_step (inner.WeekNumberSunday m) = component (WeekNumberSunday m)
inner_step (inner.WeekNumberMonday m) = component (WeekNumberMonday m)
inner_step (inner.CalendarYearFullExtendedRange m) = component (CalendarYearFullExtendedRange m)
inner_step (inner.CalendarYearFullStandardRange m) = component (CalendarYearFullStandardRange m)
inner_step (inner.CalendarYearCenturyExtendedRange m) =
    component (CalendarYearCenturyExtendedRange m)
inner_step (inner.CalendarYearCenturyStandardRange m) =
    component (CalendarYearCenturyStandardRange m)
inner_step (inner.IsoYearFullExtendedRange m) = component (IsoYearFullExtendedRange m)
inner_step (inner.IsoYearFullStandardRange m) = component (IsoYearFullStandardRange m)
inner_step (inner.IsoYearCenturyExtendedRange m) = component (IsoYearCenturyExtendedRange m)
inner_step (inner.IsoYearCenturyStandardRange m) = component (IsoYearCenturyStandardRange m)
inner_step (inner.CalendarYearLastTwo m) = component (CalendarYearLastTwo m)
inner_step (inner.IsoYearLastTwo m) = component (IsoYearLastTwo m)
inner_step (inner.Hour12 m) = component (Hour12 m)
inner_step (inner.Hour24 m) = component (Hour24 m)
inner_step (inner.Minute m) = component (Minute m)
inner_step (inner.Period m) = component (Period m)
inner_step (inner.Second m) = component (Second m)
inner_step (inner.Subsecond m) = component (Subsecond m)
inner_step (inner.OffsetHour m) = component (OffsetHour m)
inner_step (inner.OffsetMinute m) = component (OffsetMinute m)
inner_step (inner.OffsetSecond m) = component (OffsetSecond m)
inner_step (inner.Ignore m) = component (Ignore m)
inner_step (inner.UnixTimestampSecond m) = component (UnixTimestampSecond m)
inner_step (inner.UnixTimestampMillisecond m) = component (UnixTimestampMillisecond m)
inner_step (inner.UnixTimestampMicrosecond m) = component (UnixTimestampMicrosecond m)
inner_step (inner.UnixTimestampNanosecond m) = component (UnixTimestampNanosecond m)
inner_step (inner.End m) = component (End m)
inner_step (inner.BorrowedLiteral text) = literal text.now
inner_step (inner.BorrowedCompound members) = compound (trees members.now)
inner_step (inner.BorrowedOptional format member) = optional format member.now
inner_step (inner.BorrowedFirst members) = first (trees members.now)
inner_step (inner.OwnedLiteral text) = literal (string_bytes text)
inner_step (inner.OwnedCompound members) = compound (trees members.items)
inner_step (inner.OwnedOptional format member) = optional format (box_value member)
inner_step (inner.OwnedFirst members) = first (trees members.items)

abbrev pub inner_tree : FormatDescriptionV3Inner → Tree
inner_tree = fold-FormatDescriptionV3Inner Tree inner_step

-- whether it is one of the four owned parts
abbrev pub owns_step : FormatDescriptionV3Inner-F Bool → Bool
owns_step (inner.OwnedLiteral text) = true
owns_step (inner.OwnedCompound members) = true
owns_step (inner.OwnedOptional format member) = true
owns_step (inner.OwnedFirst members) = true
owns_step other = false

abbrev pub owns : FormatDescriptionV3Inner → Bool
owns = fold-FormatDescriptionV3Inner Bool owns_step

-- how many owned parts it has, at any depth: each has memory of its own
abbrev pub owned_step : FormatDescriptionV3Inner-F ℕ → ℕ
owned_step (inner.OwnedLiteral text) = 1
owned_step (inner.OwnedCompound members) = 1 + sum members.items
owned_step (inner.OwnedOptional format member) = 1 + box_value member
owned_step (inner.OwnedFirst members) = 1 + sum members.items
owned_step other = 0

abbrev pub owned_parts : FormatDescriptionV3Inner → ℕ
owned_parts = fold-FormatDescriptionV3Inner ℕ owned_step
