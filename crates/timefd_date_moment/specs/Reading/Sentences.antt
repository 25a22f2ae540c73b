-- The sentence of an error.
use Rattle.std.specs.Prelude.{ℕ, List, ◌++◌, codes}
use Rattle.timefd_date_moment.specs.declared.reading.error.ValueError.{ValueError}
use Rattle.timefd_date_moment.specs.declared.reading.error.ValueError.TheVariants as error
use Rattle.timefd_date_moment.specs.declared.reading.part.DatePart.{DatePart}
use Rattle.timefd_date_moment.specs.declared.reading.part.TimePart.{TimePart}
use Rattle.timefd_date_moment.specs.declared.reading.part.OffsetPart.{OffsetPart}
use Rattle.timefd_date_moment.specs.declared.reading.part.InstantPart.{InstantPart}
use Rattle.timefd_date_moment.specs.declared.reading.part.Part.{Part}
use Rattle.timefd_date_moment.specs.declared.reading.part.Part.TheVariants as part

abbrev pub date_name : DatePart → List ℕ
date_name DatePart.Day = codes "day"
date_name DatePart.Month = codes "month"
date_name DatePart.Ordinal = codes "day of the year"
date_name DatePart.Weekday = codes "weekday"
date_name DatePart.IsoWeek = codes "ISO week"
date_name DatePart.SundayWeek = codes "week from Sunday"
date_name DatePart.MondayWeek = codes "week from Monday"
date_name DatePart.YearLastTwo = codes "last two digits of the year"
date_name DatePart.Century = codes "century"
date_name DatePart.Year = codes "year"
date_name DatePart.IsoYearLastTwo = codes "last two digits of the ISO year"
date_name DatePart.IsoCentury = codes "century of the ISO year"
date_name DatePart.IsoYear = codes "ISO year"

abbrev pub time_name : TimePart → List ℕ
time_name TimePart.Hour = codes "hour"
time_name TimePart.Hour12 = codes "hour of twelve"
time_name TimePart.Period = codes "period"
time_name TimePart.Minute = codes "minute"
time_name TimePart.Second = codes "second"
time_name TimePart.Subsecond = codes "fraction of a second"

abbrev pub offset_name : OffsetPart → List ℕ
offset_name OffsetPart.Hour = codes "hour of the offset"
offset_name OffsetPart.Minute = codes "minute of the offset"
offset_name OffsetPart.Second = codes "second of the offset"

abbrev pub instant_name : InstantPart → List ℕ
instant_name InstantPart.Second = codes "Unix timestamp in seconds"
instant_name InstantPart.Millisecond = codes "Unix timestamp in milliseconds"
instant_name InstantPart.Microsecond = codes "Unix timestamp in microseconds"
instant_name InstantPart.Nanosecond = codes "Unix timestamp in nanoseconds"

abbrev pub name : Part → List ℕ
name (part.Date p) = date_name p
name (part.Time p) = time_name p
name (part.Offset p) = offset_name p
name (part.Instant p) = instant_name p

abbrev pub sentence : ValueError → List ℕ
sentence (error.Missing p) = codes "the " ++ (name p ++ codes " was not read")
sentence (error.Contradiction p) = codes "the " ++ (name p ++ codes " disagrees with what else was read")
