-- The codes of what is refused and of traps.
use Rattle.std.specs.Prelude.{◌≡◌, List, [], ◌∷◌, Option, Some, None, codes, bytes_eq, if◌then◌else◌}
use Rattle.timefd_parse.specs.Tree.{Text}
use Rattle.timefd_lang_dialect.specs.declared.reason.Reason.{Reason}
use Rattle.timefd_lang_dialect.specs.declared.reason.Reason.TheVariants.{Backslash, Capitals, DatetimeOnly, DayPeriod, Era, Flag, FractionWidth, GmtOffset, HourFrom0Or24, JulianDay, LocalTime, LocalWeek, Locale, NarrowName, OptionalPart, OrdinalSuffix, PadLetter, Platform, Quarter, ReadingOnly, Reserved, TooManyLetters, TwoDigitYear, TwoLetterName, UnclosedQuote, UnitOfDay, UnknownDirective, UnknownLetter, Unsupported, VariableFraction, VariableOffset, VariableWidth, WeekOfMonth, Width, ZForUtc, ZoneName}
use Rattle.timefd_lang_dialect.specs.declared.trap.Trap.{Trap}
use Rattle.timefd_lang_dialect.specs.declared.trap.Trap.TheVariants as traps
use Rattle.timefd_lang_dialect.specs.Reasons as reasons
use Rattle.timefd_lang_dialect.specs.TrapWords as words

abbrev pub all_reasons : List Reason
all_reasons =
    Backslash ∷ Capitals ∷ DatetimeOnly ∷ DayPeriod ∷ Era ∷ Flag ∷ FractionWidth ∷ GmtOffset
    ∷ HourFrom0Or24 ∷ JulianDay ∷ LocalTime ∷ LocalWeek ∷ Locale ∷ NarrowName ∷ OptionalPart
    ∷ OrdinalSuffix ∷ PadLetter ∷ Platform ∷ Quarter ∷ ReadingOnly ∷ Reserved ∷ TooManyLetters
    ∷ TwoDigitYear ∷ TwoLetterName ∷ UnclosedQuote ∷ UnitOfDay ∷ UnknownDirective ∷ UnknownLetter
    ∷ Unsupported ∷ VariableFraction ∷ VariableOffset ∷ VariableWidth ∷ WeekOfMonth ∷ Width
    ∷ ZForUtc ∷ ZoneName ∷ []

abbrev pub all_traps : List Trap
all_traps =
    traps.WeekYearBesideMonth ∷ traps.DayOfYearBesideMonth ∷ traps.HourWithoutPeriod
    ∷ traps.MinuteBesideDay ∷ traps.SecondBeforeMinute ∷ traps.TwoLetterWeekday
    ∷ traps.WeekdayFromZero ∷ traps.Panic ∷ traps.YearWithoutCentury ∷ []

-- the reason with this code
abbrev pub reason_named : Text → Option Reason
reason_named name =
    if bytes_eq name (codes "backslash") then Some Backslash
    else if bytes_eq name (codes "capitals") then Some Capitals
    else if bytes_eq name (codes "datetime-only") then Some DatetimeOnly
    else if bytes_eq name (codes "day-period") then Some DayPeriod
    else if bytes_eq name (codes "era") then Some Era
    else if bytes_eq name (codes "flag") then Some Flag
    else if bytes_eq name (codes "fraction-width") then Some FractionWidth
    else if bytes_eq name (codes "gmt-offset") then Some GmtOffset
    else if bytes_eq name (codes "hour-from-0-or-24") then Some HourFrom0Or24
    else if bytes_eq name (codes "julian-day") then Some JulianDay
    else if bytes_eq name (codes "local-time") then Some LocalTime
    else if bytes_eq name (codes "local-week") then Some LocalWeek
    else if bytes_eq name (codes "locale") then Some Locale
    else if bytes_eq name (codes "narrow-name") then Some NarrowName
    else if bytes_eq name (codes "optional-part") then Some OptionalPart
    else if bytes_eq name (codes "ordinal-suffix") then Some OrdinalSuffix
    else if bytes_eq name (codes "pad-letter") then Some PadLetter
    else if bytes_eq name (codes "platform") then Some Platform
    else if bytes_eq name (codes "quarter") then Some Quarter
    else if bytes_eq name (codes "reading-only") then Some ReadingOnly
    else if bytes_eq name (codes "reserved") then Some Reserved
    else if bytes_eq name (codes "too-many-letters") then Some TooManyLetters
    else if bytes_eq name (codes "two-digit-year") then Some TwoDigitYear
    else if bytes_eq name (codes "two-letter-name") then Some TwoLetterName
    else if bytes_eq name (codes "unclosed-quote") then Some UnclosedQuote
    else if bytes_eq name (codes "unit-of-day") then Some UnitOfDay
    else if bytes_eq name (codes "unknown-directive") then Some UnknownDirective
    else if bytes_eq name (codes "unknown-letter") then Some UnknownLetter
    else if bytes_eq name (codes "unsupported") then Some Unsupported
    else if bytes_eq name (codes "variable-fraction") then Some VariableFraction
    else if bytes_eq name (codes "variable-offset") then Some VariableOffset
    else if bytes_eq name (codes "variable-width") then Some VariableWidth
    else if bytes_eq name (codes "week-of-month") then Some WeekOfMonth
    else if bytes_eq name (codes "width") then Some Width
    else if bytes_eq name (codes "z-for-utc") then Some ZForUtc
    else if bytes_eq name (codes "zone-name") then Some ZoneName
    else None

-- the trap with this code
abbrev pub trap_named : Text → Option Trap
trap_named name =
    if bytes_eq name (codes "week-year-beside-month") then Some traps.WeekYearBesideMonth
    else if bytes_eq name (codes "day-of-year-beside-month") then Some traps.DayOfYearBesideMonth
    else if bytes_eq name (codes "hour-without-period") then Some traps.HourWithoutPeriod
    else if bytes_eq name (codes "minute-beside-day") then Some traps.MinuteBesideDay
    else if bytes_eq name (codes "second-before-minute") then Some traps.SecondBeforeMinute
    else if bytes_eq name (codes "two-letter-weekday") then Some traps.TwoLetterWeekday
    else if bytes_eq name (codes "weekday-from-zero") then Some traps.WeekdayFromZero
    else if bytes_eq name (codes "panic") then Some traps.Panic
    else if bytes_eq name (codes "year-without-century") then Some traps.YearWithoutCentury
    else None

-- Each code of a reason is read back.
abbrev pub ReasonsAreRead : Type 0
ReasonsAreRead = (reason : Reason) → reason_named (reasons.name reason) ≡ Some reason

-- Each code of a trap is read back.
abbrev pub TrapsAreRead : Type 0
TrapsAreRead = (trap : Trap) → trap_named (words.name trap) ≡ Some trap
