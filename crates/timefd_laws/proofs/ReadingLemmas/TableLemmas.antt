-- The text that is written for each component is read back.
use Rattle.std.proofs.Common.{ℕ, ◌≡◌, ◌∙◌, ◌≤◌, ◌<◌, ◌^◌, ◌-◌, ◌/◌, ◌%◌, inl, inr, true, false, nat_le, [], Result, Ok}
use Rattle.std.proofs.Common.{Err, IfOk, refl, ap, arith, subst}
use Rattle.timefd_lang_component.specs.declared.component.Component.{Component}
use Rattle.timefd_lang_component.specs.declared.component.Component.TheVariants as of
use Rattle.timefd_lang_component.specs.Modern.{modern}
use Rattle.timefd_lang_component.specs.Texts.{filled, long_months, long_weekdays, short_months, short_weekdays}
use Rattle.timefd_lang_component.specs.Tree.{Text}
use Rattle.timefd_date_format.specs.declared.field.WrittenField.{WrittenField}
use Rattle.timefd_date_format.specs.declared.field.Lack.{Lack}
use Rattle.timefd_date_format.specs.declared.field.Unshown.{Unshown}
use Rattle.timefd_date_format.specs.Fields.{field, field_text, from_one, name_at, period_text}
use Rattle.timefd_date_format.specs.Written.{text_of}
use Rattle.timefd_modifier.specs.declared.enums.Padding.{Padding}
use Rattle.timefd_date_moment.specs.declared.date.Date.{Date}
use Rattle.timefd_date_moment.specs.declared.time.Time.{Time}
use Rattle.timefd_date_moment.specs.declared.offset.UtcOffset.{UtcOffset}
use Rattle.timefd_date_moment.specs.declared.moment.Moment.{Moment}
use Rattle.timefd_date_moment.specs.Moments.{date_ordinal, days_from_monday, days_from_sunday, hour_of_twelve, iso_week, iso_years}
use Rattle.timefd_date_moment.specs.Moments.{magnitude, monday_week, sunday_week, unix_time}
use Rattle.timefd_date_moment.specs.Fields.Inputs.{after_monday, first_number}
use Rattle.timefd_date_moment.specs.Reading.Stamped.{whole_seconds}
use Rattle.timefd_laws.specs.Reading.Laws.{ComponentBack}
use Rattle.timefd_laws.specs.Reading.Shown.{IsOf, Shows}
use Rattle.timefd_laws.proofs.ReadingLemmas.BoundLemmas.{in_month, iso_week_in, nanoseconds_in, ordinal_first, ordinal_last}
use Rattle.timefd_laws.proofs.ReadingLemmas.BoundLemmas.{seconds_in}
use Rattle.timefd_laws.proofs.ReadingLemmas.NameBackLemmas.{less_first, period_back, period_position, position_is, weekday_back}
use Rattle.timefd_laws.proofs.ReadingLemmas.NameBackLemmas.{long_months_back, long_weekdays_back, short_months_back}
use Rattle.timefd_laws.proofs.ReadingLemmas.NameBackLemmas.{short_weekdays_back}
use Rattle.timefd_laws.proofs.ReadingLemmas.RowLemmas.{IsRow, by_date, by_instant, by_offset, by_time, Row, of_year}
use Rattle.timefd_laws.proofs.ReadingLemmas.PositionLemmas as position
use Rattle.timefd_laws.proofs.ReadingLemmas.SecondRowLemmas.{end_row, fraction_row}
use Rattle.timefd_laws.proofs.ReadingLemmas.SignLemmas.{Has}
use Rattle.timefd_laws.proofs.ReadingLemmas.WidthRowLemmas.{name_row, number_row, period_row, signed_row, stamp_row, two_digits}
use Rattle.timefd_laws.proofs.ReadingLemmas.WidthRowLemmas.{weekday_row, year_row}

has : (w most greatest n : ℕ) → 1 ≤ w → w ≤ most → most ≤ 23 → n ≤ greatest → greatest < 10 ^ most
    → Has w w most greatest n
has w most greatest n some low few high small = record {
  some = some;
  low = omega arith;
  most = low;
  few = few;
  high = high;
  small = small;
}

module _ (m : Moment) (d : Date) (t : Time) (o : UtcOffset) (s : Shows) (is : IsOf m d t o) where
  -- The table.
  pub back : (c : Component) → IfOk (field m c) (IsRow d t o s c)
  back (of.Day p) = by_date m d t o s is (of.Day p)
      (two_digits d t o s position.day (of.Day p) _ p.padding 1 31 d.day (λ f n. refl) refl (omega (arith, d.exists))
      (omega (arith, d.exists, in_month d.years d.month)) (omega arith))
  back (of.MonthShort p) = by_date m d t o s is (of.MonthShort p)
      (λ rest ends. name_row d t o s position.month (of.MonthShort p) _ 1 (name_at short_months (d.month - 1)) rest _
      (d.month - 1) (λ f n. refl) (omega (arith, d.exists))
      (short_months_back p.case_sensitive (d.month - 1) rest (omega (arith, d.exists))))
  back (of.MonthLong p) = by_date m d t o s is (of.MonthLong p)
      (λ rest ends. name_row d t o s position.month (of.MonthLong p) _ 1 (name_at long_months (d.month - 1)) rest _
      (d.month - 1) (λ f n. refl) (omega (arith, d.exists))
      (long_months_back p.case_sensitive (d.month - 1) rest (omega (arith, d.exists))))
  back (of.MonthNumerical p) = by_date m d t o s is (of.MonthNumerical p)
      (two_digits d t o s position.month (of.MonthNumerical p) _ p.padding 1 12 d.month (λ f n. refl) refl
      (omega (arith, d.exists)) (omega (arith, d.exists)) (omega arith))
  back (of.Ordinal p) = by_date m d t o s is (of.Ordinal p)
      (number_row d t o s position.ordinal (of.Ordinal p) _ p.padding 3 1 366 (date_ordinal d) (λ f n. refl) refl
      (omega arith) (omega arith) (ordinal_first d) (ordinal_last d) (omega arith))
  back (of.WeekdayShort p) = by_date m d t o s is (of.WeekdayShort p)
      (λ rest ends. name_row d t o s position.weekday
      (of.WeekdayShort p) _ 0 (name_at short_weekdays (days_from_monday d)) rest _ (days_from_monday d) (λ f n. refl)
      (omega arith) (short_weekdays_back p.case_sensitive (days_from_monday d) rest (omega arith)))
  back (of.WeekdayLong p) = by_date m d t o s is (of.WeekdayLong p)
      (λ rest ends. name_row d t o s position.weekday
      (of.WeekdayLong p) _ 0 (name_at long_weekdays (days_from_monday d)) rest _ (days_from_monday d) (λ f n. refl)
      (omega arith) (long_weekdays_back p.case_sensitive (days_from_monday d) rest (omega arith)))
  back (of.WeekdaySunday p) = by_date m d t o s is (of.WeekdaySunday p)
      (λ rest ends. weekday_row d t o s (of.WeekdaySunday p) true (first_number p.one_indexed)
      (filled Padding.None 1 (from_one p.one_indexed (days_from_sunday d))) rest _
      (from_one p.one_indexed (days_from_sunday d))
      (ap (after_monday true) (less_first p.one_indexed (days_from_sunday d)) ∙ omega arith)
      (weekday_back p.one_indexed (days_from_sunday d) rest (omega arith)))
  back (of.WeekdayMonday p) = by_date m d t o s is (of.WeekdayMonday p)
      (λ rest ends. weekday_row d t o s (of.WeekdayMonday p) false (first_number p.one_indexed)
      (filled Padding.None 1 (from_one p.one_indexed (days_from_monday d))) rest _
      (from_one p.one_indexed (days_from_monday d))
      (ap (after_monday false) (less_first p.one_indexed (days_from_monday d)) ∙ omega arith)
      (weekday_back p.one_indexed (days_from_monday d) rest (omega arith)))
  back (of.WeekNumberIso p) = by_date m d t o s is (of.WeekNumberIso p)
      (two_digits d t o s position.iso_week (of.WeekNumberIso p) _ p.padding 1 53 (iso_week d) (λ f n. refl) refl
      (iso_week_in d).0 (iso_week_in d).1 (omega arith))
  back (of.WeekNumberSunday p) = by_date m d t o s is (of.WeekNumberSunday p)
      (two_digits d t o s position.sunday_week (of.WeekNumberSunday p) _ p.padding 0 53 (sunday_week d) (λ f n. refl) refl
      (omega arith) (omega (arith, ordinal_last d)) (omega arith))
  back (of.WeekNumberMonday p) = by_date m d t o s is (of.WeekNumberMonday p)
      (two_digits d t o s position.monday_week (of.WeekNumberMonday p) _ p.padding 0 53 (monday_week d) (λ f n. refl) refl
      (omega arith) (omega (arith, ordinal_last d)) (omega arith))
  back (of.CalendarYearFullExtendedRange p) = by_date m d t o s is (of.CalendarYearFullExtendedRange p)
      (of_year (IsRow d t o s (of.CalendarYearFullExtendedRange p)) 999999 4 1 p.padding p.sign_is_mandatory d.years
      (λ few rest ends. year_row d t o s position.year (of.CalendarYearFullExtendedRange p) _ p.padding 4 6 999999 1 d.years
      p.sign_is_mandatory (λ f n. refl) refl (has 4 6 999999 (magnitude d.years / 1) (omega arith) (omega arith)
      (omega arith) (omega (arith, few)) (omega arith)) (λ short. omega (arith, short)) rest (inr ends)))
  back (of.CalendarYearFullStandardRange p) = by_date m d t o s is (of.CalendarYearFullStandardRange p)
      (of_year (IsRow d t o s (of.CalendarYearFullStandardRange p)) 9999 4 1 p.padding p.sign_is_mandatory d.years
      (λ few rest ends. year_row d t o s position.year (of.CalendarYearFullStandardRange p) _ p.padding 4 4 9999 1 d.years
      p.sign_is_mandatory (λ f n. refl) refl (has 4 4 9999 (magnitude d.years / 1) (omega arith) (omega arith)
      (omega arith) (omega (arith, few)) (omega arith)) (λ short. omega (arith, short)) rest (inl (refl, ends))))
  back (of.CalendarYearCenturyExtendedRange p) = by_date m d t o s is (of.CalendarYearCenturyExtendedRange p)
      (of_year (IsRow d t o s (of.CalendarYearCenturyExtendedRange p)) 999999 2 100 p.padding p.sign_is_mandatory d.years
      (λ few rest ends. year_row d t o s position.century
      (of.CalendarYearCenturyExtendedRange p) _ p.padding 2 4 9999 100 d.years p.sign_is_mandatory (λ f n. refl) refl
      (has 2 4 9999 (magnitude d.years / 100) (omega arith) (omega arith) (omega arith) (omega (arith, few))
      (omega arith)) (λ short. omega (arith, short)) rest (inr ends)))
  back (of.CalendarYearCenturyStandardRange p) = by_date m d t o s is (of.CalendarYearCenturyStandardRange p)
      (of_year (IsRow d t o s (of.CalendarYearCenturyStandardRange p)) 9999 2 100 p.padding p.sign_is_mandatory d.years
      (λ few rest ends. year_row d t o s position.century
      (of.CalendarYearCenturyStandardRange p) _ p.padding 2 2 99 100 d.years p.sign_is_mandatory (λ f n. refl) refl
      (has 2 2 99 (magnitude d.years / 100) (omega arith) (omega arith) (omega arith) (omega (arith, few)) (omega arith))
      (λ short. omega (arith, short)) rest (inl (refl, ends))))
  back (of.IsoYearFullExtendedRange p) = by_date m d t o s is (of.IsoYearFullExtendedRange p)
      (of_year (IsRow d t o s (of.IsoYearFullExtendedRange p)) 999999 4 1 p.padding p.sign_is_mandatory (iso_years d)
      (λ few rest ends. year_row d t o s position.iso_year
      (of.IsoYearFullExtendedRange p) _ p.padding 4 6 999999 1 (iso_years d) p.sign_is_mandatory (λ f n. refl) refl
      (has 4 6 999999 (magnitude (iso_years d) / 1) (omega arith) (omega arith) (omega arith) (omega (arith, few))
      (omega arith)) (λ short. omega (arith, short)) rest (inr ends)))
  back (of.IsoYearFullStandardRange p) = by_date m d t o s is (of.IsoYearFullStandardRange p)
      (of_year (IsRow d t o s (of.IsoYearFullStandardRange p)) 9999 4 1 p.padding p.sign_is_mandatory (iso_years d)
      (λ few rest ends. year_row d t o s position.iso_year
      (of.IsoYearFullStandardRange p) _ p.padding 4 4 9999 1 (iso_years d) p.sign_is_mandatory (λ f n. refl) refl
      (has 4 4 9999 (magnitude (iso_years d) / 1) (omega arith) (omega arith) (omega arith) (omega (arith, few))
      (omega arith)) (λ short. omega (arith, short)) rest (inl (refl, ends))))
  back (of.IsoYearCenturyExtendedRange p) = by_date m d t o s is (of.IsoYearCenturyExtendedRange p)
      (of_year (IsRow d t o s (of.IsoYearCenturyExtendedRange p)) 999999 2 100 p.padding p.sign_is_mandatory (iso_years d)
      (λ few rest ends. year_row d t o s position.iso_century
      (of.IsoYearCenturyExtendedRange p) _ p.padding 2 4 9999 100 (iso_years d) p.sign_is_mandatory (λ f n. refl) refl
      (has 2 4 9999 (magnitude (iso_years d) / 100) (omega arith) (omega arith) (omega arith) (omega (arith, few))
      (omega arith)) (λ short. omega (arith, short)) rest (inr ends)))
  back (of.IsoYearCenturyStandardRange p) = by_date m d t o s is (of.IsoYearCenturyStandardRange p)
      (of_year (IsRow d t o s (of.IsoYearCenturyStandardRange p)) 9999 2 100 p.padding p.sign_is_mandatory (iso_years d)
      (λ few rest ends. year_row d t o s position.iso_century
      (of.IsoYearCenturyStandardRange p) _ p.padding 2 2 99 100 (iso_years d) p.sign_is_mandatory (λ f n. refl) refl
      (has 2 2 99 (magnitude (iso_years d) / 100) (omega arith) (omega arith) (omega arith) (omega (arith, few))
      (omega arith)) (λ short. omega (arith, short)) rest (inl (refl, ends))))
  back (of.CalendarYearLastTwo p) = by_date m d t o s is (of.CalendarYearLastTwo p)
      (two_digits d t o s position.year_last_two (of.CalendarYearLastTwo p) _ p.padding 0 99 (magnitude d.years % 100)
      (λ f n. refl) refl (omega arith) (omega arith) (omega arith))
  back (of.IsoYearLastTwo p) = by_date m d t o s is (of.IsoYearLastTwo p)
      (two_digits d t o s position.iso_year_last_two (of.IsoYearLastTwo p) _ p.padding 0 99 (magnitude (iso_years d) % 100)
      (λ f n. refl) refl (omega arith) (omega arith) (omega arith))
  back (of.Hour12 p) = by_time m d t o s is (of.Hour12 p)
      (two_digits d t o s position.hour_12 (of.Hour12 p) _ p.padding 1 12 (hour_of_twelve t.hour) (λ f n. refl) refl
      (omega arith) (omega arith) (omega arith))
  back (of.Hour24 p) = by_time m d t o s is (of.Hour24 p)
      (two_digits d t o s position.hour (of.Hour24 p) _ p.padding 0 23 t.hour (λ f n. refl) refl (omega arith) t.hours
      (omega arith))
  back (of.Minute p) = by_time m d t o s is (of.Minute p)
      (two_digits d t o s position.minute (of.Minute p) _ p.padding 0 59 t.minute (λ f n. refl) refl (omega arith) t.minutes
      (omega arith))
  back (of.Second p) = by_time m d t o s is (of.Second p)
      (two_digits d t o s position.second (of.Second p) _ p.padding 0 59 t.second (λ f n. refl) refl (omega arith) t.seconds
      (omega arith))
  back (of.OffsetMinute p) = by_offset m d t o s is (of.OffsetMinute p)
      (two_digits d t o s position.offset_minute (of.OffsetMinute p) _ p.padding 0 59 (o.seconds / 60 % 60)
      (λ f n. refl) refl (omega arith) (omega arith) (omega arith))
  back (of.OffsetSecond p) = by_offset m d t o s is (of.OffsetSecond p)
      (two_digits d t o s position.offset_second (of.OffsetSecond p) _ p.padding 0 59 (o.seconds % 60) (λ f n. refl) refl
      (omega arith) (omega arith) (omega arith))
  back (of.Period p) = by_time m d t o s is (of.Period p)
      (λ rest ends. period_row d t o s (of.Period p) (period_text p.is_uppercase (nat_le 12 t.hour)) rest _
      (period_position (nat_le 12 t.hour)) (position_is (nat_le 12 t.hour))
      (period_back p.is_uppercase p.case_sensitive (nat_le 12 t.hour) rest))
  back (of.Subsecond p) = by_time m d t o s is (of.Subsecond p) (fraction_row d t o s p.digits p refl)
  back (of.OffsetHour p) = by_offset m d t o s is (of.OffsetHour p) (λ rest ends.
      signed_row d t o s position.offset_hour (of.OffsetHour p) _ p.padding 2 2 2 25 (o.seconds / 3600) p.sign_is_mandatory
      o.is_negative p.sign_is_mandatory (λ f n. refl) refl (has 2 2 25 (o.seconds / 3600) (omega arith) (omega arith)
      (omega arith) (omega (arith, o.within)) (omega arith)) (λ e. (e, omega (arith, o.within))) rest (inl (refl, ends)))
  back (of.UnixTimestampSecond p) = by_instant m d t o s is (of.UnixTimestampSecond p)
      (λ inside. stamp_row d t o s position.unix_second (of.UnixTimestampSecond p) _ 14 99999999999999
      (whole_seconds (unix_time d t o)) p.sign_is_mandatory (unix_time d t o).is_negative
      (λ f n. refl) refl (omega arith) (omega arith) (omega (arith, seconds_in (unix_time d t o) inside)) (omega arith))
  back (of.UnixTimestampMillisecond p) = by_instant m d t o s is (of.UnixTimestampMillisecond p)
      (λ inside. stamp_row d t o s position.unix_millisecond (of.UnixTimestampMillisecond p) _ 17 99999999999999999
      ((unix_time d t o).nanoseconds / 1000000) p.sign_is_mandatory (unix_time d t o).is_negative
      (λ f n. refl) refl (omega arith) (omega arith) (omega (arith, nanoseconds_in (unix_time d t o) inside))
      (omega arith))
  back (of.UnixTimestampMicrosecond p) = by_instant m d t o s is (of.UnixTimestampMicrosecond p)
      (λ inside. stamp_row d t o s position.unix_microsecond (of.UnixTimestampMicrosecond p) _ 20 99999999999999999999
      ((unix_time d t o).nanoseconds / 1000) p.sign_is_mandatory (unix_time d t o).is_negative
      (λ f n. refl) refl (omega arith) (omega arith) (omega (arith, nanoseconds_in (unix_time d t o) inside))
      (omega arith))
  back (of.UnixTimestampNanosecond p) = by_instant m d t o s is (of.UnixTimestampNanosecond p)
      (λ inside. stamp_row d t o s position.unix_nanosecond (of.UnixTimestampNanosecond p) _ 23 99999999999999999999999
      (unix_time d t o).nanoseconds p.sign_is_mandatory (unix_time d t o).is_negative
      (λ f n. refl) refl (omega arith) (omega arith) (omega (arith, nanoseconds_in (unix_time d t o) inside))
      (omega arith))
  back (of.Ignore p) = λ rest ends. absurd ends
  back (of.End p) = λ rest ends. end_row d t o s p rest ends
  back (of.Month p) = λ rest ends. absurd ends
  back (of.Weekday p) = λ rest ends. absurd ends
  back (of.WeekNumber p) = λ rest ends. absurd ends
  back (of.Hour p) = λ rest ends. absurd ends
  back (of.UnixTimestamp p) = λ rest ends. absurd ends
  back (of.Year p) = λ rest ends. absurd ends

abbrev text_in : Result Text Unshown → Text
text_in (Ok text) = text
text_in (Err u) = []

of_text : (P : Text → Type 0) (c : Component) (r : Result WrittenField Lack) (text : Text)
    → IfOk r (λ f. P (field_text f)) → text_of c r ≡ Ok text → P text
of_text P c (Ok f) text h e = subst P (ap text_in e) h
of_text P c (Err l) text h e = absurd cc

pub component_back : ComponentBack
component_back m d t o c s text rest is shown ends =
    of_text (Row d t o s (modern c)) (modern c) (field m (modern c)) text (back m d t o s is (modern c)) shown rest ends
