-- The kinds of what a component shows.
use Rattle.std.proofs.Common.{◌≡◌, true, refl, ap, subst}
use Rattle.std.specs.Prelude.{is_some, ⊤}
use Rattle.timefd_lang_component.specs.declared.component.Component.{Component}
use Rattle.timefd_lang_component.specs.declared.component.Component.TheVariants as of
use Rattle.timefd_lang_component.specs.Modern.{modern}
use Rattle.timefd_lang_component.proofs.ModernLemmas.{IsReplacement, hour_replaced, month_replaced, timestamp_replaced}
use Rattle.timefd_lang_component.proofs.ModernLemmas.{week_replaced, weekday_replaced, year_replaced}
use Rattle.timefd_date_format.specs.Kinds.{Kind}
use Rattle.timefd_date_format.specs.Kinds as kind
use Rattle.timefd_date_format.specs.Fields.{kind as kind_of}
use Rattle.timefd_date_moment.specs.declared.date.Date.{Date}
use Rattle.timefd_date_moment.specs.declared.time.Time.{Time}
use Rattle.timefd_date_moment.specs.declared.offset.UtcOffset.{UtcOffset}
use Rattle.timefd_date_moment.specs.declared.fields.fields.Fields.{Fields}
use Rattle.timefd_laws.specs.Reading.Shown.{Shows, fields_shown, with_component}
use Rattle.timefd_laws.proofs.ReadingLemmas.GrowLemmas.{kind_more, by_subsecond, has_kind}
use Rattle.timefd_laws.proofs.ReadingLemmas.PositionLemmas as position
use Rattle.timefd_laws.proofs.ReadingLemmas.PositionLemmas.{WriteCursor}

-- the component isn't deprecated

abbrev pub IsCurrent : Component → Type 0
IsCurrent (of.Month c) = ⊥
IsCurrent (of.Weekday c) = ⊥
IsCurrent (of.WeekNumber c) = ⊥
IsCurrent (of.Hour c) = ⊥
IsCurrent (of.UnixTimestamp c) = ⊥
IsCurrent (of.Year c) = ⊥
IsCurrent _ = ⊤

replaced : (c : Component) → IsReplacement c → IsCurrent c
replaced (of.Month c) h = h
replaced (of.Weekday c) h = h
replaced (of.WeekNumber c) h = h
replaced (of.Hour c) h = h
replaced (of.UnixTimestamp c) h = h
replaced (of.Year c) h = h
replaced _ h = tt

pub modern_current : (c : Component) → IsCurrent (modern c)
modern_current (of.Month c) = replaced _ (month_replaced c.repr c)
modern_current (of.Weekday c) = replaced _ (weekday_replaced c.repr c)
modern_current (of.WeekNumber c) = replaced _ (week_replaced c.repr c)
modern_current (of.Hour c) = replaced _ (hour_replaced c.is_12_hour_clock c)
modern_current (of.UnixTimestamp c) = replaced _ (timestamp_replaced c.precision c)
modern_current (of.Year c) = replaced _ (year_replaced c.iso_week_based c.repr c.range c)
modern_current _ = tt

-- what is shown for any moment
module _ (d : Date) (t : Time) (o : UtcOffset) where
  abbrev pub as_fields : Shows → Fields
  as_fields s = fields_shown d t o s

  -- one more kind
  pub record Kept (k : Kind) (s v : Shows) : Type 0 where
    pub grows : (j : Kind) → has_kind j (as_fields s) ≡ true → has_kind j (as_fields v) ≡ true
    pub here : has_kind k (as_fields v) ≡ true

  -- the kind of a field
  shown : {A : Type 0} (position : WriteCursor A) (s : Shows) → Kept position.kind s (position.put_in s true)
  shown position s =
      let g = position.set (as_fields s) (position.value d t o) in
      let is = position.is_set (as_fields s) (position.value d t o) in
      let here : has_kind position.kind g ≡ true = position.known g (ap is_some is.0) in
      let same = (position.is_shown d t o s).0 in
      record {
        grows = λ j h. subst (λ (f : Fields). has_kind j f ≡ true) same
            (kind_more position.kind (as_fields s) g here is.1 j h);
        here = subst (λ (f : Fields). has_kind position.kind f ≡ true) same here;
      }

  pub component_shows : (c : Component) → IsCurrent c → (s : Shows) → Kept (kind_of c) s (with_component c s)
  component_shows (of.Day c) is s = shown position.day s
  component_shows (of.MonthShort c) is s = shown position.month s
  component_shows (of.MonthLong c) is s = shown position.month s
  component_shows (of.MonthNumerical c) is s = shown position.month s
  component_shows (of.Ordinal c) is s = shown position.ordinal s
  component_shows (of.WeekdayShort c) is s = shown position.weekday s
  component_shows (of.WeekdayLong c) is s = shown position.weekday s
  component_shows (of.WeekdaySunday c) is s = shown position.weekday s
  component_shows (of.WeekdayMonday c) is s = shown position.weekday s
  component_shows (of.WeekNumberIso c) is s = shown position.iso_week s
  component_shows (of.WeekNumberSunday c) is s = shown position.sunday_week s
  component_shows (of.WeekNumberMonday c) is s = shown position.monday_week s
  component_shows (of.CalendarYearFullExtendedRange c) is s = shown position.year s
  component_shows (of.CalendarYearFullStandardRange c) is s = shown position.year s
  component_shows (of.CalendarYearCenturyExtendedRange c) is s = shown position.century s
  component_shows (of.CalendarYearCenturyStandardRange c) is s = shown position.century s
  component_shows (of.IsoYearFullExtendedRange c) is s = shown position.iso_year s
  component_shows (of.IsoYearFullStandardRange c) is s = shown position.iso_year s
  component_shows (of.IsoYearCenturyExtendedRange c) is s = shown position.iso_century s
  component_shows (of.IsoYearCenturyStandardRange c) is s = shown position.iso_century s
  component_shows (of.CalendarYearLastTwo c) is s = shown position.year_last_two s
  component_shows (of.IsoYearLastTwo c) is s = shown position.iso_year_last_two s
  component_shows (of.Hour12 c) is s = shown position.hour_12 s
  component_shows (of.Hour24 c) is s = shown position.hour s
  component_shows (of.Minute c) is s = shown position.minute s
  component_shows (of.Second c) is s = shown position.second s
  component_shows (of.OffsetMinute c) is s = shown position.offset_minute s
  component_shows (of.OffsetSecond c) is s = shown position.offset_second s
  component_shows (of.Period c) is s = shown position.is_afternoon s
  component_shows (of.Subsecond c) is s =
      let g = as_fields (with_component (of.Subsecond c) s) in
      record { grows = kind_more kind.Time (as_fields s) g (by_subsecond g refl) refl; here = by_subsecond g refl }
  component_shows (of.OffsetHour c) is s = shown position.offset_hour s
  component_shows (of.UnixTimestampSecond c) is s = shown position.unix_second s
  component_shows (of.UnixTimestampMillisecond c) is s = shown position.unix_millisecond s
  component_shows (of.UnixTimestampMicrosecond c) is s = shown position.unix_microsecond s
  component_shows (of.UnixTimestampNanosecond c) is s = shown position.unix_nanosecond s
  component_shows (of.Ignore c) is s = record { grows = λ j h. h; here = refl }
  component_shows (of.End c) is s = record { grows = λ j h. h; here = refl }
  component_shows _ is s = absurd is
