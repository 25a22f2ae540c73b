-- A description whose parts are given shows the same of all dates that agree with what was read.
use Rattle.std.proofs.Common.{ℕ, ◌≡◌, ◌∙◌, ◌+◌, ◌-◌, ◌%◌, ◌≤◌, ◌==◌, ◌||◌, Bool, true, false, nat_le, nat_lt, List, [], ◌∷◌, Option, Some, None, Ok, if◌then◌else◌, refl, sym, ap, arith}
use Rattle.std.specs.Prelude.{is_some}
use Rattle.std.proofs.lemmas.Bool.{eqb-true}
use Rattle.timefd_lang_component.specs.declared.component.Component.{Component}
use Rattle.timefd_lang_component.specs.declared.component.Component.TheVariants as shows
use Rattle.timefd_lang_component.specs.Modern.{modern}
use Rattle.timefd_lang_component.specs.Tree.{Tree, component, literal, compound, optional, first, trees}
use Rattle.timefd_date_format.specs.declared.field.WrittenField.TheVariants as fields
use Rattle.timefd_date_format.specs.Fields.{field, from_one, plain, year}
use Rattle.timefd_date_format.specs.Written.{followed, text_of, written, written_all}
use Rattle.timefd_date_format.proofs.LeafLemmas.{by_leaves}
use Rattle.timefd_modifier.specs.declared.enums.Padding.{Padding}
use Rattle.timefd_date_moment.specs.declared.date.Date.{Date}
use Rattle.timefd_date_moment.specs.declared.time.Time.{Time}
use Rattle.timefd_date_moment.specs.declared.offset.UtcOffset.{UtcOffset}
use Rattle.timefd_date_moment.specs.Calendar.{days_in_year}
use Rattle.timefd_date_moment.specs.Moments as of
use Rattle.timefd_date_moment.specs.Moments.{magnitude}
use Rattle.timefd_lang_node_list.specs.Leaves.{leaves}
use Rattle.timefd_format.specs.Completing.Given.{are_given, is_given, is_part_given, is_year_given}
use Rattle.timefd_format.specs.Completing.Laws.{OneText, dated}
use Rattle.timefd_date_moment.specs.declared.fields.fields.Fields.{Fields}
use Rattle.timefd_date_moment.specs.declared.fields.fields.Signed.{Signed}
use Rattle.timefd_date_moment.specs.Fields.Readings.{same}
use Rattle.timefd_date_moment.specs.declared.reading.part.DatePart.{DatePart}
use Rattle.timefd_date_moment.specs.Reading.Shown.{DateAgrees, is_century, is_count, is_last_two, is_year}
use Rattle.timefd_date_moment.proofs.ReadingLemmas.YearLemmas.{both, years_known}

same_count : (o : Option ℕ) (m n : ℕ) → is_some o ≡ true → is_count o m ≡ true → is_count o n ≡ true → m ≡ n
same_count None m n g a b = absurd cc
same_count (Some k) m n g a b = sym (eqb-true k m a) ∙ eqb-true k n b

same_years : (y c : Option Signed) (two : Option ℕ) (m n : ℕ) → m ≤ 2000000 → n ≤ 2000000
    → is_year_given y c two ≡ true → is_year y m ≡ true → is_century c m ≡ true → is_last_two two m ≡ true
    → is_year y n ≡ true → is_century c n ≡ true → is_last_two two n ≡ true → m ≡ n
same_years (Some s) c two m n h k g a b e p q r =
    sym (years_known (Some s) c two m h a b e) ∙ years_known (Some s) c two n k p q r
same_years None (Some s) (Some x) m n h k g a b e p q r =
    sym (years_known None (Some s) (Some x) m h a b e) ∙ years_known None (Some s) (Some x) n k p q r
same_years None (Some s) None m n h k g a b e p q r = absurd cc
same_years None None two m n h k g a b e p q r = absurd cc

year_magnitude : (s : Signed) (n : ℕ) → is_year (Some s) n ≡ true → s.magnitude ≡ magnitude n
year_magnitude s n e =
    eqb-true s.magnitude (magnitude n)
    (both (s.magnitude == magnitude n) ((magnitude n == 0) || same s.is_negative (of.is_before_zero n)) e).0

same_last_two : (two : Option ℕ) (y : Option Signed) (m n : ℕ) → (is_some two || is_some y) ≡ true
    → is_last_two two m ≡ true → is_year y m ≡ true → is_last_two two n ≡ true → is_year y n ≡ true
    → magnitude m % 100 ≡ magnitude n % 100
same_last_two (Some k) y m n g a b p q =
    sym (eqb-true k (magnitude m % 100) a) ∙ eqb-true k (magnitude n % 100) p
same_last_two None (Some s) m n g a b p q =
    ap (λ (x : ℕ). x % 100) (sym (year_magnitude s m b) ∙ year_magnitude s n q)
same_last_two None None m n g a b p q = absurd cc

iso_within : (d : Date) → of.iso_years d ≤ 2000000
iso_within d =
    at d.years (nat_le (of.thursday d) 7) (nat_lt (days_in_year d.years + 7) (of.thursday d)) d.exists.1
  where
    at : (y : ℕ) (t u : Bool) → y ≤ 1999999
        → (if t then y - 1 else (if u then y + 1 else y)) ≤ 2000000
    at y true u h = omega (arith, h)
    at y false true h = omega (arith, h)
    at y false false h = omega (arith, h)

module _ (f : Fields) (d e : Date) (a : DateAgrees f d) (b : DateAgrees f e) where
  years_same : is_year_given f.year f.century f.year_last_two ≡ true → d.years ≡ e.years
  years_same g =
      same_years f.year f.century f.year_last_two d.years e.years (omega (arith, d.exists.1)) (omega (arith, e.exists.1)) g
      (a DatePart.Year) (a DatePart.Century) (a DatePart.YearLastTwo) (b DatePart.Year) (b DatePart.Century)
      (b DatePart.YearLastTwo)

  iso_years_same : is_year_given f.iso_year f.iso_century f.iso_year_last_two ≡ true → of.iso_years d ≡ of.iso_years e
  iso_years_same g =
      same_years f.iso_year f.iso_century f.iso_year_last_two (of.iso_years d) (of.iso_years e) (iso_within d)
      (iso_within e) g (a DatePart.IsoYear) (a DatePart.IsoCentury) (a DatePart.IsoYearLastTwo) (b DatePart.IsoYear)
      (b DatePart.IsoCentury) (b DatePart.IsoYearLastTwo)

  month_same : is_some f.month ≡ true → d.month ≡ e.month
  month_same g = same_count f.month d.month e.month g (a DatePart.Month) (b DatePart.Month)

  weekday_same : is_some f.weekday ≡ true → of.days_from_monday d ≡ of.days_from_monday e
  weekday_same g =
      same_count f.weekday (of.days_from_monday d) (of.days_from_monday e) g (a DatePart.Weekday) (b DatePart.Weekday)

  module _ (time : Option Time) (offset : Option UtcOffset) where
    field_same : (c : Component) → is_given f c ≡ true → field (dated d time offset) c ≡ field (dated e time offset) c
    field_same (shows.Day m) g =
        ap (λ (n : ℕ). Ok (plain m.padding 2 n)) (same_count f.day d.day e.day g (a DatePart.Day) (b DatePart.Day))
    field_same (shows.MonthShort m) g = ap (λ (n : ℕ). Ok (fields.MonthShort n)) (month_same g)
    field_same (shows.MonthLong m) g = ap (λ (n : ℕ). Ok (fields.MonthLong n)) (month_same g)
    field_same (shows.MonthNumerical m) g = ap (λ (n : ℕ). Ok (plain m.padding 2 n)) (month_same g)
    field_same (shows.Ordinal m) g =
        ap (λ (n : ℕ). Ok (plain m.padding 3 n))
        (same_count f.ordinal (of.date_ordinal d) (of.date_ordinal e) g (a DatePart.Ordinal) (b DatePart.Ordinal))
    field_same (shows.WeekdayShort m) g = ap (λ (n : ℕ). Ok (fields.WeekdayShort n)) (weekday_same g)
    field_same (shows.WeekdayLong m) g = ap (λ (n : ℕ). Ok (fields.WeekdayLong n)) (weekday_same g)
    field_same (shows.WeekdaySunday m) g =
        ap (λ (n : ℕ). Ok (plain Padding.None 1 (from_one m.one_indexed ((n + 1) % 7)))) (weekday_same g)
    field_same (shows.WeekdayMonday m) g =
        ap (λ (n : ℕ). Ok (plain Padding.None 1 (from_one m.one_indexed n))) (weekday_same g)
    field_same (shows.WeekNumberIso m) g =
        ap (λ (n : ℕ). Ok (plain m.padding 2 n))
        (same_count f.iso_week (of.iso_week d) (of.iso_week e) g (a DatePart.IsoWeek) (b DatePart.IsoWeek))
    field_same (shows.WeekNumberSunday m) g =
        ap (λ (n : ℕ). Ok (plain m.padding 2 n))
        (same_count f.sunday_week (of.sunday_week d) (of.sunday_week e) g (a DatePart.SundayWeek) (b DatePart.SundayWeek))
    field_same (shows.WeekNumberMonday m) g =
        ap (λ (n : ℕ). Ok (plain m.padding 2 n))
        (same_count f.monday_week (of.monday_week d) (of.monday_week e) g (a DatePart.MondayWeek) (b DatePart.MondayWeek))
    field_same (shows.CalendarYearFullExtendedRange m) g =
        ap (λ (n : ℕ). year 999999 4 1 m.padding m.sign_is_mandatory n) (years_same g)
    field_same (shows.CalendarYearFullStandardRange m) g =
        ap (λ (n : ℕ). year 9999 4 1 m.padding m.sign_is_mandatory n) (years_same g)
    field_same (shows.CalendarYearCenturyExtendedRange m) g =
        ap (λ (n : ℕ). year 999999 2 100 m.padding m.sign_is_mandatory n) (years_same g)
    field_same (shows.CalendarYearCenturyStandardRange m) g =
        ap (λ (n : ℕ). year 9999 2 100 m.padding m.sign_is_mandatory n) (years_same g)
    field_same (shows.IsoYearFullExtendedRange m) g =
        ap (λ (n : ℕ). year 999999 4 1 m.padding m.sign_is_mandatory n) (iso_years_same g)
    field_same (shows.IsoYearFullStandardRange m) g =
        ap (λ (n : ℕ). year 9999 4 1 m.padding m.sign_is_mandatory n) (iso_years_same g)
    field_same (shows.IsoYearCenturyExtendedRange m) g =
        ap (λ (n : ℕ). year 999999 2 100 m.padding m.sign_is_mandatory n) (iso_years_same g)
    field_same (shows.IsoYearCenturyStandardRange m) g =
        ap (λ (n : ℕ). year 9999 2 100 m.padding m.sign_is_mandatory n) (iso_years_same g)
    field_same (shows.CalendarYearLastTwo m) g =
        ap (λ (n : ℕ). Ok (plain m.padding 2 n))
        (same_last_two f.year_last_two f.year d.years e.years g (a DatePart.YearLastTwo) (a DatePart.Year)
        (b DatePart.YearLastTwo) (b DatePart.Year))
    field_same (shows.IsoYearLastTwo m) g =
        ap (λ (n : ℕ). Ok (plain m.padding 2 n))
        (same_last_two f.iso_year_last_two f.iso_year (of.iso_years d) (of.iso_years e) g (a DatePart.IsoYearLastTwo)
        (a DatePart.IsoYear) (b DatePart.IsoYearLastTwo) (b DatePart.IsoYear))
    field_same (shows.Hour12 m) g = refl
    field_same (shows.Hour24 m) g = refl
    field_same (shows.Minute m) g = refl
    field_same (shows.Period m) g = refl
    field_same (shows.Second m) g = refl
    field_same (shows.Subsecond m) g = refl
    field_same (shows.OffsetHour m) g = refl
    field_same (shows.OffsetMinute m) g = refl
    field_same (shows.OffsetSecond m) g = refl
    field_same (shows.Ignore m) g = refl
    field_same (shows.End m) g = refl
    field_same (shows.UnixTimestampSecond m) g = absurd cc
    field_same (shows.UnixTimestampMillisecond m) g = absurd cc
    field_same (shows.UnixTimestampMicrosecond m) g = absurd cc
    field_same (shows.UnixTimestampNanosecond m) g = absurd cc
    field_same (shows.Month m) g = absurd cc
    field_same (shows.Weekday m) g = absurd cc
    field_same (shows.WeekNumber m) g = absurd cc
    field_same (shows.Hour m) g = absurd cc
    field_same (shows.UnixTimestamp m) g = absurd cc
    field_same (shows.Year m) g = absurd cc

    part_same : (t : Tree) → is_part_given f t ≡ true → written (dated d time offset) t ≡ written (dated e time offset) t
    part_same (component c) g = ap (text_of (modern c)) (field_same (modern c) g)
    part_same (literal bytes) g = refl
    part_same (compound ts) g = absurd cc
    part_same (optional format t) g = absurd cc
    part_same (first ts) g = absurd cc

    parts_same : (ts : List Tree) → are_given f ts ≡ true
        → written_all (dated d time offset) (trees ts) ≡ written_all (dated e time offset) (trees ts)
    parts_same [] g = refl
    parts_same (t ∷ ts) g =
        let known = both (is_part_given f t) (are_given f ts) g in
        (λ i. followed (part_same t known.0 i) (parts_same ts known.1 i))

pub one_text : OneText
one_text f d e time offset t a b g =
    sym (by_leaves (dated d time offset) t) ∙ parts_same f d e a b time offset (leaves t) g
    ∙ by_leaves (dated e time offset) t
