-- Which formats of other languages and libraries are refused.
use Rattle.std.specs.Prelude.{Bool, true, false}
use Rattle.timefd_lang_dialect.specs.declared.dialect.Dialect.{Dialect}
use Rattle.timefd_lang_dialect.specs.declared.dialect.Dialect.TheVariants.{Python, C, Gnu, Chrono, Jiff, Ruby, Java, Go, Moment}
use Rattle.timefd_lang_dialect.specs.declared.reason.Reason.{Reason}
use Rattle.timefd_lang_dialect.specs.declared.reason.Reason.TheVariants.{Backslash, Capitals, DatetimeOnly, DayPeriod, Era, Flag, FractionWidth, GmtOffset, HourFrom0Or24, JulianDay, LocalTime, LocalWeek, Locale, NarrowName, OptionalPart, OrdinalSuffix, PadLetter, Platform, Quarter, ReadingOnly, Reserved, TooManyLetters, TwoDigitYear, TwoLetterName, UnclosedQuote, UnitOfDay, UnknownDirective, UnknownLetter, Unsupported, VariableFraction, VariableOffset, VariableWidth, WeekOfMonth, Width, ZForUtc, ZoneName}
use Rattle.timefd_lang_dialect.specs.Reasons.{is_unknown}
use Rattle.timefd_lint_sources.specs.declared.judgement.RefusedParts.{RefusedParts}
use Rattle.timefd_lint_sources.specs.declared.judgement.RefusedParts.TheVariants.{Unwritable, Unknown}

abbrev pub is_unknown_directive : Reason → Bool
is_unknown_directive Backslash = false
is_unknown_directive Capitals = false
is_unknown_directive DatetimeOnly = false
is_unknown_directive DayPeriod = false
is_unknown_directive Era = false
is_unknown_directive Flag = false
is_unknown_directive FractionWidth = false
is_unknown_directive GmtOffset = false
is_unknown_directive HourFrom0Or24 = false
is_unknown_directive JulianDay = false
is_unknown_directive LocalTime = false
is_unknown_directive LocalWeek = false
is_unknown_directive Locale = false
is_unknown_directive NarrowName = false
is_unknown_directive OptionalPart = false
is_unknown_directive OrdinalSuffix = false
is_unknown_directive PadLetter = false
is_unknown_directive Platform = false
is_unknown_directive Quarter = false
is_unknown_directive ReadingOnly = false
is_unknown_directive Reserved = false
is_unknown_directive TooManyLetters = false
is_unknown_directive TwoDigitYear = false
is_unknown_directive TwoLetterName = false
is_unknown_directive UnclosedQuote = false
is_unknown_directive UnitOfDay = false
is_unknown_directive UnknownDirective = true
is_unknown_directive UnknownLetter = false
is_unknown_directive Unsupported = false
is_unknown_directive VariableFraction = false
is_unknown_directive VariableOffset = false
is_unknown_directive VariableWidth = false
is_unknown_directive WeekOfMonth = false
is_unknown_directive Width = false
is_unknown_directive ZForUtc = false
is_unknown_directive ZoneName = false

-- What chrono itself refuses is an unknown directive, or a flag that a directive doesn't take. Jiff takes each flag.
abbrev pub is_refused_in_rust : Dialect → Reason → Bool
is_refused_in_rust Chrono reason = is_unknown reason
is_refused_in_rust Jiff reason = is_unknown_directive reason
is_refused_in_rust Python reason = true
is_refused_in_rust C reason = true
is_refused_in_rust Gnu reason = true
is_refused_in_rust Ruby reason = true
is_refused_in_rust Java reason = true
is_refused_in_rust Go reason = true
is_refused_in_rust Moment reason = true

-- In a source of Rust a part of a format of chrono or jiff is refused if the library refuses it. Any other is refused if
-- version 3 has no text for it.
abbrev pub is_refused : RefusedParts → Dialect → Reason → Bool
is_refused Unknown dialect reason = is_refused_in_rust dialect reason
is_refused Unwritable dialect reason = true
