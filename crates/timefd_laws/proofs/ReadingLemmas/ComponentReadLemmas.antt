-- What reading a component does to the fields, and to the parts that were read.
use Rattle.std.proofs.Common.{ℕ, ◌≡◌, ◌-◌, ◌==◌, Bool, true, false, nat_le, length, Option, Some, None, Ok, refl, subst}
use Rattle.timefd_lang_component.specs.declared.component.Component.{Component}
use Rattle.timefd_lang_component.specs.declared.component.Component.TheVariants as of
use Rattle.timefd_date_format.specs.Kinds as kind
use Rattle.timefd_date_format.specs.Fields.{kind as kind_of}
use Rattle.timefd_date_moment.specs.declared.fields.fields.Fields.{Fields}
use Rattle.timefd_date_moment.specs.Fields.Inputs.{after_monday, as_period, as_weekday, first_number}
use Rattle.timefd_date_moment.specs.Fields.Numbers.{sign_in}
use Rattle.timefd_date_moment.specs.Fields.Readings.{same}
use Rattle.timefd_date_moment.specs.Fields.Reads.{Point, read_component, taken}
use Rattle.timefd_laws.specs.Reading.Again.{parts}
use Rattle.timefd_laws.specs.Reading.Shown.{with_component}
use Rattle.timefd_laws.proofs.ReadingLemmas.FractionReadLemmas.{fraction_read}
use Rattle.timefd_laws.proofs.ReadingLemmas.GrowLemmas.{Range, any, same_grows}
use Rattle.timefd_laws.proofs.ReadingLemmas.GrowLemmas as range
use Rattle.timefd_laws.proofs.ReadingLemmas.PositionLemmas as position
use Rattle.timefd_laws.proofs.ReadingLemmas.ReadRowLemmas.{Leaves, Placed, amount, count, name, placed, signed_within, year}
use Rattle.timefd_laws.proofs.ReadingLemmas.RowLemmas.{equal}
use Rattle.timefd_laws.proofs.ReadingLemmas.StepLemmas.{either_took, end_kept, nothing_kept}

-- the range of the years that a component shows
abbrev pub range_of : Component → Range
range_of (of.CalendarYearFullExtendedRange m) = range.year 999999
range_of (of.CalendarYearFullStandardRange m) = range.year 9999
range_of (of.CalendarYearCenturyExtendedRange m) = range.century 9999
range_of (of.CalendarYearCenturyStandardRange m) = range.century 99
range_of (of.IsoYearFullExtendedRange m) = range.iso_year 999999
range_of (of.IsoYearFullStandardRange m) = range.iso_year 9999
range_of (of.IsoYearCenturyExtendedRange m) = range.iso_century 9999
range_of (of.IsoYearCenturyStandardRange m) = range.iso_century 99
range_of _ = any

module _ (p q : Point) where
  weekday : (c : Component) (is_sunday_first : Bool) (first : ℕ) (x : Option (ℕ × ℕ))
      → taken c p (as_weekday is_sunday_first first x) ≡ Ok q → Placed position.weekday p q any
  weekday c b first None e = absurd cc
  weekday c b first (Some r) e =
      placed position.weekday p q c equal any r.1 (after_monday b (r.0 - first)) tt (λ a found same. tt) e

  period : (c : Component) (x : Option (ℕ × ℕ)) → taken c p (as_period x) ≡ Ok q → Placed position.is_afternoon p q any
  period c None e = absurd cc
  period c (Some r) e = placed position.is_afternoon p q c same any r.1 (r.0 == 1) tt (λ a found eq. tt) e

  kept : p.fields ≡ q.fields → Leaves (parts p.fields) kind.Nothing any p.fields q.fields
  kept e = subst (λ (f : Fields). Leaves (parts p.fields) kind.Nothing any p.fields f) e (record {
    with_parts = refl;
    stays_whole = λ h. h;
    grows = same_grows p.fields;
    knows = record { kind = refl; range = tt };
  })

  pub component_read : (c : Component) → read_component c p ≡ Ok q
      → Leaves (with_component c (parts p.fields)) (kind_of c) (range_of c) p.fields q.fields
  component_read (of.Day c) e = count position.day (of.Day c) p q _ _ (λ f n. refl) e
  component_read (of.MonthShort c) e = name position.month (of.MonthShort c) p q _ 1 _ (λ f n. refl) e
  component_read (of.MonthLong c) e = name position.month (of.MonthLong c) p q _ 1 _ (λ f n. refl) e
  component_read (of.MonthNumerical c) e = count position.month (of.MonthNumerical c) p q _ _ (λ f n. refl) e
  component_read (of.Ordinal c) e = count position.ordinal (of.Ordinal c) p q _ _ (λ f n. refl) e
  component_read (of.WeekdayShort c) e = name position.weekday (of.WeekdayShort c) p q _ 0 _ (λ f n. refl) e
  component_read (of.WeekdayLong c) e = name position.weekday (of.WeekdayLong c) p q _ 0 _ (λ f n. refl) e
  component_read (of.WeekdaySunday c) e = weekday (of.WeekdaySunday c) true (first_number c.one_indexed) _ e
  component_read (of.WeekdayMonday c) e = weekday (of.WeekdayMonday c) false (first_number c.one_indexed) _ e
  component_read (of.WeekNumberIso c) e = count position.iso_week (of.WeekNumberIso c) p q _ _ (λ f n. refl) e
  component_read (of.WeekNumberSunday c) e = count position.sunday_week (of.WeekNumberSunday c) p q _ _ (λ f n. refl) e
  component_read (of.WeekNumberMonday c) e = count position.monday_week (of.WeekNumberMonday c) p q _ _ (λ f n. refl) e
  component_read (of.CalendarYearFullExtendedRange c) e =
      year position.year (of.CalendarYearFullExtendedRange c) p q _ (range.year 999999) 999999 _
      (signed_within c.padding 4 4 6 999999 (sign_in p.rest) c.sign_is_mandatory p.rest) (λ f h. h) (λ f n. refl) e
  component_read (of.CalendarYearFullStandardRange c) e =
      year position.year (of.CalendarYearFullStandardRange c) p q _ (range.year 9999) 9999 _
      (signed_within c.padding 4 4 4 9999 (sign_in p.rest) c.sign_is_mandatory p.rest) (λ f h. h) (λ f n. refl) e
  component_read (of.CalendarYearCenturyExtendedRange c) e =
      year position.century (of.CalendarYearCenturyExtendedRange c) p q _ (range.century 9999) 9999 _
      (signed_within c.padding 2 2 4 9999 (sign_in p.rest) c.sign_is_mandatory p.rest) (λ f h. h) (λ f n. refl) e
  component_read (of.CalendarYearCenturyStandardRange c) e =
      year position.century (of.CalendarYearCenturyStandardRange c) p q _ (range.century 99) 99 _
      (signed_within c.padding 2 2 2 99 (sign_in p.rest) c.sign_is_mandatory p.rest) (λ f h. h) (λ f n. refl) e
  component_read (of.IsoYearFullExtendedRange c) e =
      year position.iso_year (of.IsoYearFullExtendedRange c) p q _ (range.iso_year 999999) 999999 _
      (signed_within c.padding 4 4 6 999999 (sign_in p.rest) c.sign_is_mandatory p.rest) (λ f h. h) (λ f n. refl) e
  component_read (of.IsoYearFullStandardRange c) e =
      year position.iso_year (of.IsoYearFullStandardRange c) p q _ (range.iso_year 9999) 9999 _
      (signed_within c.padding 4 4 4 9999 (sign_in p.rest) c.sign_is_mandatory p.rest) (λ f h. h) (λ f n. refl) e
  component_read (of.IsoYearCenturyExtendedRange c) e =
      year position.iso_century (of.IsoYearCenturyExtendedRange c) p q _ (range.iso_century 9999) 9999 _
      (signed_within c.padding 2 2 4 9999 (sign_in p.rest) c.sign_is_mandatory p.rest) (λ f h. h) (λ f n. refl) e
  component_read (of.IsoYearCenturyStandardRange c) e =
      year position.iso_century (of.IsoYearCenturyStandardRange c) p q _ (range.iso_century 99) 99 _
      (signed_within c.padding 2 2 2 99 (sign_in p.rest) c.sign_is_mandatory p.rest) (λ f h. h) (λ f n. refl) e
  component_read (of.CalendarYearLastTwo c) e =
      count position.year_last_two (of.CalendarYearLastTwo c) p q _ _ (λ f n. refl) e
  component_read (of.IsoYearLastTwo c) e = count position.iso_year_last_two (of.IsoYearLastTwo c) p q _ _ (λ f n. refl) e
  component_read (of.Hour12 c) e = count position.hour_12 (of.Hour12 c) p q _ _ (λ f n. refl) e
  component_read (of.Hour24 c) e = count position.hour (of.Hour24 c) p q _ _ (λ f n. refl) e
  component_read (of.Minute c) e = count position.minute (of.Minute c) p q _ _ (λ f n. refl) e
  component_read (of.Second c) e = count position.second (of.Second c) p q _ _ (λ f n. refl) e
  component_read (of.OffsetMinute c) e = count position.offset_minute (of.OffsetMinute c) p q _ _ (λ f n. refl) e
  component_read (of.OffsetSecond c) e = count position.offset_second (of.OffsetSecond c) p q _ _ (λ f n. refl) e
  component_read (of.Period c) e = period (of.Period c) _ e
  component_read (of.Subsecond c) e = fraction_read c p q e
  component_read (of.OffsetHour c) e = amount position.offset_hour (of.OffsetHour c) p q _ _ (λ f n. refl) e
  component_read (of.UnixTimestampSecond c) e = amount position.unix_second (of.UnixTimestampSecond c) p q _ _ (λ f n. refl) e
  component_read (of.UnixTimestampMillisecond c) e =
      amount position.unix_millisecond (of.UnixTimestampMillisecond c) p q _ _ (λ f n. refl) e
  component_read (of.UnixTimestampMicrosecond c) e =
      amount position.unix_microsecond (of.UnixTimestampMicrosecond c) p q _ _ (λ f n. refl) e
  component_read (of.UnixTimestampNanosecond c) e =
      amount position.unix_nanosecond (of.UnixTimestampNanosecond c) p q _ _ (λ f n. refl) e
  component_read (of.Ignore c) e =
      kept (either_took (taken (of.Ignore c) p) _ (nat_le c.count.value (length p.rest)) q e (p.fields ≡ q.fields) refl
      (λ h. nothing_kept (of.Ignore c) p q c.count.value h))
  component_read (of.End c) e = kept (end_kept (of.End c) p q c.trailing_input e)
  component_read c e = absurd cc
