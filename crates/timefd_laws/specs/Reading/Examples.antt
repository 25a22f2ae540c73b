-- Examples. They show that the premises of the laws can be met.
use Rattle.std.specs.Prelude.{◌≡◌, true, false, [], ◌∷◌, codes, Some, None, Ok}
use Rattle.timefd_lang_component.specs.declared.component.Component.TheVariants.{CalendarYearFullExtendedRange}
use Rattle.timefd_lang_component.specs.declared.component.Component.TheVariants.{CalendarYearFullStandardRange, Day, Hour24}
use Rattle.timefd_lang_component.specs.declared.component.Component.TheVariants.{Minute, MonthNumerical, OffsetHour}
use Rattle.timefd_lang_component.specs.declared.component.Component.TheVariants.{OffsetMinute, Second, Subsecond}
use Rattle.timefd_lang_component.specs.declared.component.Component.TheVariants.{UnixTimestampSecond}
use Rattle.timefd_lang_component.specs.Tree.{Tree, component, literal, compound, trees}
use Rattle.timefd_date_format.specs.Written.{written}
use Rattle.timefd_modifier.specs.declared.enums.Padding.{Padding}
use Rattle.timefd_modifier.specs.declared.enums.SubsecondDigits.{SubsecondDigits}
use Rattle.timefd_date_moment.specs.declared.date.Date.{Date}
use Rattle.timefd_date_moment.specs.declared.time.Time.{Time}
use Rattle.timefd_date_moment.specs.declared.offset.UtcOffset.{UtcOffset}
use Rattle.timefd_date_moment.specs.declared.moment.Moment.{Moment}
use Rattle.timefd_date_moment.specs.declared.fields.fields.Fields.{Fields}
use Rattle.timefd_date_moment.specs.Fields.Fields.{no_fields}
use Rattle.timefd_date_moment.specs.Fields.Reads.{fields_of}
use Rattle.timefd_date_moment.specs.Reading.Offsets.{shift_read}
use Rattle.timefd_date_moment.specs.Reading.Stamps.{instant_read}
use Rattle.timefd_date_moment.specs.Reading.Times.{clock_read}
use Rattle.timefd_date_moment.specs.Reading.Ways.{IsDetermined, date_way}
use Rattle.timefd_lang_warnings.specs.Settling.Settled.{is_settled}
use Rattle.timefd_laws.specs.Reading.Again.{IsWrittenAgain}
use Rattle.timefd_laws.specs.Reading.Shown.{shows, shows_nothing, with_sign}

abbrev pub year : Tree
year = component (CalendarYearFullExtendedRange (record { padding = Padding.Zero; sign_is_mandatory = false }))

abbrev pub four_digits : Tree
four_digits =
    component (CalendarYearFullStandardRange (record { padding = Padding.Zero; sign_is_mandatory = false }))

abbrev pub month : Padding → Tree
month padding = component (MonthNumerical (record { padding = padding }))

abbrev pub day : Padding → Tree
day padding = component (Day (record { padding = padding }))

-- `[year]-[month]-[day]`
abbrev pub iso_date : Tree
iso_date = compound (trees (year ∷ literal (codes "-") ∷ month Padding.Zero ∷ literal (codes "-")
    ∷ day Padding.Zero ∷ []))

-- `[year range:standard][month][day]`
abbrev pub basic_date : Tree
basic_date = compound (trees (four_digits ∷ month Padding.Zero ∷ day Padding.Zero ∷ []))

-- `[year][month][day]`, where the year may have six digits
abbrev pub touching_date : Tree
touching_date = compound (trees (year ∷ month Padding.Zero ∷ day Padding.Zero ∷ []))

-- `[month padding:none][day padding:none]`
abbrev pub touching_days : Tree
touching_days = compound (trees (month Padding.None ∷ day Padding.None ∷ []))

-- `[hour]:[minute]:[second].[subsecond]`
abbrev pub clock : Tree
clock = compound (trees (component (Hour24 (record { padding = Padding.Zero })) ∷ literal (codes ":")
    ∷ component (Minute (record { padding = Padding.Zero })) ∷ literal (codes ":")
    ∷ component (Second (record { padding = Padding.Zero })) ∷ literal (codes ".")
    ∷ component (Subsecond (record { digits = SubsecondDigits.OneOrMore })) ∷ []))

-- `[offset_hour sign:mandatory]:[offset_minute]`
abbrev pub offset : Tree
offset = compound (trees (
    component (OffsetHour (record { padding = Padding.Zero; sign_is_mandatory = true })) ∷ literal (codes ":")
    ∷ component (OffsetMinute (record { padding = Padding.Zero })) ∷ []))

-- `[unix_timestamp]`
abbrev pub stamp : Tree
stamp = component (UnixTimestampSecond (record { sign_is_mandatory = false }))

abbrev pub date_fields : Fields
date_fields = record no_fields { year = Some (with_sign false 2026); month = Some 11; day = Some 23 }

abbrev pub clock_fields : Fields
clock_fields = record no_fields {
  hour = Some 5;
  minute = Some 36;
  second = Some 7;
  subsecond = Some (record { digits = 9; nanosecond = 12000000 });
}

abbrev pub offset_fields : Fields
offset_fields = record no_fields { offset_hour = Some (with_sign true 0); offset_minute = Some 30 }

-- `[unix_timestamp].[subsecond]`
abbrev pub stamp_clock : Tree
stamp_clock = compound (trees (stamp ∷ literal (codes ".")
    ∷ component (Subsecond (record { digits = SubsecondDigits.OneOrMore })) ∷ []))

abbrev pub stamp_fields : Fields
stamp_fields = record no_fields {
  subsecond = Some (record { digits = 9; nanosecond = 500000000 });
  unix_second = Some (with_sign true 1);
}

-- half a second before 1970, in UTC
abbrev pub IsHalfBefore : Date → Time → UtcOffset → Type 0
IsHalfBefore d t o = (d.years ≡ 1001969) × (d.month ≡ 12) × (d.day ≡ 31) × (t.hour ≡ 23)
    × (t.minute ≡ 59) × (t.second ≡ 59) × (t.nanosecond ≡ 500000000) × (o.seconds ≡ 0)

abbrev pub all : Date → Time → UtcOffset → Moment
all d t o = record { date = Some d; time = Some t; offset = Some o }

-- only a date
abbrev pub only : Date → Moment
only d = record { date = Some d; time = None; offset = None }

-- The twenty-third of November 2026 is written like this, and read back.
abbrev pub DateExample : Type 0
DateExample = ((d : Date) → d.years ≡ 1002026 → d.month ≡ 11 → d.day ≡ 23
    → written (only d) iso_date ≡ Ok (codes "2026-11-23"))
    × (is_settled iso_date ≡ true) × (is_settled basic_date ≡ true) × (is_settled touching_date ≡ false)
    × (is_settled touching_days ≡ false)
    × (shows iso_date ≡ record shows_nothing { year = true; month = true; day = true })
    × (fields_of iso_date (codes "2026-11-23") ≡ Ok date_fields)
    × (fields_of basic_date (codes "20261123") ≡ Ok date_fields)
    × IsDetermined (date_way date_fields) × (instant_read date_fields ≡ None)

abbrev pub TimeExample : Type 0
TimeExample = (is_settled clock ≡ true) × (fields_of clock (codes "05:36:07.012") ≡ Ok clock_fields)
    × IsDetermined (clock_read clock_fields)

-- the sign of an offset of half an hour behind UTC
abbrev pub OffsetExample : Type 0
OffsetExample = (is_settled offset ≡ true) × (fields_of offset (codes "-00:30") ≡ Ok offset_fields)
    × IsDetermined (shift_read offset_fields)

abbrev pub StampExample : Type 0
StampExample = (is_settled stamp ≡ true)
    × (fields_of stamp (codes "-1") ≡ Ok (record no_fields { unix_second = Some (with_sign true 1) }))

-- A year with a plus is written without it.
abbrev pub AgainExample : Type 0
AgainExample = (d : Date) (t : Time) (o : UtcOffset) → d.years ≡ 1002026 → d.month ≡ 11 → d.day ≡ 23
    → IsWrittenAgain (only d) d t o iso_date date_fields (codes "2026-11-23")

-- Seconds before 1970 are read with a zero in front, and their fraction with a zero at the end. They are
-- written without both zeros, and are the same moment.
abbrev pub StampAgainExample : Type 0
StampAgainExample = (d : Date) (t : Time) (o : UtcOffset) → IsHalfBefore d t o
    → IsWrittenAgain (all d t o) d t o stamp_clock stamp_fields (codes "-1.5")
