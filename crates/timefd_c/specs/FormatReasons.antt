-- The number of each reason for C.
use Rattle.std.specs.Prelude.{ℕ}
use Rattle.timefd_lang_dialect.specs.declared.reason.Reason.{Reason}
use Rattle.timefd_lang_dialect.specs.declared.reason.Reason.TheVariants.{Backslash, Capitals, DatetimeOnly, DayPeriod, Era, Flag, FractionWidth, GmtOffset, HourFrom0Or24, JulianDay, LocalTime, LocalWeek, Locale, NarrowName, OptionalPart, OrdinalSuffix, PadLetter, Platform, Quarter, ReadingOnly, Reserved, TooManyLetters, TwoDigitYear, TwoLetterName, UnclosedQuote, UnitOfDay, UnknownDirective, UnknownLetter, Unsupported, VariableFraction, VariableOffset, VariableWidth, WeekOfMonth, Width, ZForUtc, ZoneName}

abbrev pub reason_number : Reason → ℕ
reason_number Backslash = 1
reason_number Capitals = 2
reason_number DatetimeOnly = 3
reason_number DayPeriod = 4
reason_number Era = 5
reason_number Flag = 6
reason_number FractionWidth = 7
reason_number GmtOffset = 8
reason_number HourFrom0Or24 = 9
reason_number JulianDay = 10
reason_number LocalTime = 11
reason_number LocalWeek = 12
reason_number Locale = 13
reason_number NarrowName = 14
reason_number OptionalPart = 15
reason_number OrdinalSuffix = 16
reason_number PadLetter = 17
reason_number Platform = 18
reason_number Quarter = 19
reason_number ReadingOnly = 20
reason_number Reserved = 21
reason_number TooManyLetters = 22
reason_number TwoDigitYear = 36
reason_number TwoLetterName = 23
reason_number UnclosedQuote = 24
reason_number UnitOfDay = 25
reason_number UnknownDirective = 26
reason_number UnknownLetter = 27
reason_number Unsupported = 28
reason_number VariableFraction = 29
reason_number VariableOffset = 30
reason_number VariableWidth = 31
reason_number WeekOfMonth = 32
reason_number Width = 33
reason_number ZForUtc = 34
reason_number ZoneName = 35
