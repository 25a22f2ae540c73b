-- The values of the fields that were read back.
use Rattle.std.proofs.Common.{ℕ, ◌≡◌, ◌∙◌, ◌*◌, ◌/◌, ◌%◌, ◌==◌, ◌&&◌, ◌||◌, Bool, true, false, Option, Some, None, Result}
use Rattle.std.proofs.Common.{Ok, Err, refl, sym, ap, subst, arith}
use Rattle.std.proofs.Math.Nat.{div-mul-le_self, mod-eq-sub-div-mul}
use Rattle.std.proofs.lemmas.Bool.{eq-eqb, eqb-true}
use Rattle.std.specs.Prelude.{is_some}
use Rattle.timefd_lang_component.specs.Tree.{Tree}
use Rattle.timefd_date_moment.specs.declared.date.Date.{Date}
use Rattle.timefd_date_moment.specs.declared.time.Time.{Time}
use Rattle.timefd_date_moment.specs.declared.offset.UtcOffset.{UtcOffset}
use Rattle.timefd_date_moment.specs.Moments.{date_ordinal, days_from_monday, hour_of_twelve, is_before_zero, iso_week}
use Rattle.timefd_date_moment.specs.Moments.{iso_years, magnitude, monday_week, sunday_week}
use Rattle.timefd_date_moment.specs.declared.fields.fault.ReadError.{ReadError}
use Rattle.timefd_date_moment.specs.declared.fields.fields.Fields.{Fields}
use Rattle.timefd_date_moment.specs.Fields.Readings.{same, unit}
use Rattle.timefd_date_moment.specs.declared.fields.fields.Fraction.{Fraction}
use Rattle.timefd_date_moment.specs.declared.reading.part.DatePart.{DatePart}
use Rattle.timefd_date_moment.specs.declared.reading.part.TimePart.{TimePart}
use Rattle.timefd_date_moment.specs.declared.reading.part.OffsetPart.{OffsetPart}
use Rattle.timefd_date_moment.specs.Reading.Shown.{DateAgrees, OffsetAgrees, TimeAgrees, is_count, is_count_or_zero, is_flag}
use Rattle.timefd_date_moment.specs.Reading.Shown.{is_fraction, is_shown}
use Rattle.timefd_date_moment.proofs.ReadingLemmas.LawLemmas.{date_back, offset_back, time_back}
use Rattle.timefd_date_moment.proofs.ReadingLemmas.StampLawLemmas.{instant_back, moment_back}
use Rattle.timefd_laws.specs.Reading.Shown.{Shows, cut_where, fields_shown, if_shown, shows, with_sign}
use Rattle.timefd_laws.specs.Reading.Values.{DateReadBack, EndsWith, HasNoMoreOffset, HasNoMoreTime, InstantReadBack}
use Rattle.timefd_laws.specs.Reading.Values.{IsReadBack, IsZeroWithout, MomentReadBack, OffsetReadBack, TimeReadBack}
use Rattle.timefd_laws.specs.Reading.Again.{digits_of, parts}
use Rattle.timefd_laws.proofs.ReadingLemmas.RowLemmas.{same_sign}
use Rattle.timefd_laws.proofs.ReadingLemmas.TreeLemmas.{reads_back}
use Rattle.timefd_laws.proofs.ReadingLemmas.StepLemmas.{IsWhole}

-- Each field that is shown has the value of the moment.

pub shown_count : (b : Bool) (n : ℕ) → is_count (if_shown b n) n ≡ true
shown_count true n = eq-eqb n n refl
shown_count false n = refl

pub shown_flag : (b c : Bool) → is_flag (if_shown b c) c ≡ true
shown_flag true c = same_sign c
shown_flag false c = refl

signed_is : (negative z : Bool) (k part : ℕ) → k ≡ part → ((k == part) && (z || same negative negative)) ≡ true
signed_is negative true k part e = ap (λ t. t && true) (eq-eqb k part e)
signed_is negative false k part e =
    ap (λ t. t && same negative negative) (eq-eqb k part e) ∙ same_sign negative

pub shown_amount : (b negative : Bool) (whole k part : ℕ) → k ≡ part
    → is_shown (if_shown b (with_sign negative k)) negative whole part ≡ true
shown_amount true negative whole k part e = signed_is negative (whole == 0) k part e
shown_amount false negative whole k part e = refl

pub date_agrees : (d : Date) (t : Time) (o : UtcOffset) (s : Shows) → DateAgrees (fields_shown d t o s) d
date_agrees d t o s DatePart.Day = shown_count s.day d.day
date_agrees d t o s DatePart.Month = shown_count s.month d.month
date_agrees d t o s DatePart.Ordinal = shown_count s.ordinal (date_ordinal d)
date_agrees d t o s DatePart.Weekday = shown_count s.weekday (days_from_monday d)
date_agrees d t o s DatePart.IsoWeek = shown_count s.iso_week (iso_week d)
date_agrees d t o s DatePart.SundayWeek = shown_count s.sunday_week (sunday_week d)
date_agrees d t o s DatePart.MondayWeek = shown_count s.monday_week (monday_week d)
date_agrees d t o s DatePart.YearLastTwo = shown_count s.year_last_two (magnitude d.years % 100)
date_agrees d t o s DatePart.Century =
    shown_amount s.century (is_before_zero d.years) (magnitude d.years) (magnitude d.years / 100)
    (magnitude d.years / 100) refl
date_agrees d t o s DatePart.Year =
    shown_amount s.year (is_before_zero d.years) (magnitude d.years) (magnitude d.years / 1) (magnitude d.years)
    (omega arith)
date_agrees d t o s DatePart.IsoYearLastTwo = shown_count s.iso_year_last_two (magnitude (iso_years d) % 100)
date_agrees d t o s DatePart.IsoCentury =
    shown_amount s.iso_century (is_before_zero (iso_years d)) (magnitude (iso_years d))
    (magnitude (iso_years d) / 100) (magnitude (iso_years d) / 100) refl
date_agrees d t o s DatePart.IsoYear =
    shown_amount s.iso_year (is_before_zero (iso_years d)) (magnitude (iso_years d))
    (magnitude (iso_years d) / 1) (magnitude (iso_years d)) (omega arith)

-- finer parts that aren't shown are 0

zero_without : (b : Bool) (n : ℕ) → IsZeroWithout (if_shown b n) n → is_count_or_zero (if_shown b n) n ≡ true
zero_without true n h = eq-eqb n n refl
zero_without false n h = eq-eqb n 0 h

pub whole_units : (n u : ℕ) → n % u ≡ 0 → n / u * u ≡ n
whole_units n u h = omega (arith, h, mod-eq-sub-div-mul n u, div-mul-le_self n u)

ends_with : (digits : Option ℕ) (n : ℕ) → EndsWith (cut_where digits n) n
    → is_fraction (cut_where digits n) n ≡ true
ends_with None n h = eq-eqb n 0 h
ends_with (Some k) n h = eq-eqb (n / unit k * unit k) n (whole_units n (unit k) h)

pub time_agrees : (d : Date) (t : Time) (o : UtcOffset) (s : Shows) → HasNoMoreTime (fields_shown d t o s) t
    → TimeAgrees (fields_shown d t o s) t
time_agrees d t o s h TimePart.Hour = shown_count s.hour t.hour
time_agrees d t o s h TimePart.Hour12 = shown_count s.hour_12 (hour_of_twelve t.hour)
time_agrees d t o s h TimePart.Period = shown_flag s.is_afternoon _
time_agrees d t o s h TimePart.Minute = zero_without s.minute t.minute h.0
time_agrees d t o s h TimePart.Second = zero_without s.second t.second h.1
time_agrees d t o s h TimePart.Subsecond = ends_with s.subsecond t.nanosecond h.2

pub offset_agrees : (d : Date) (t : Time) (o : UtcOffset) (s : Shows)
    → HasNoMoreOffset (fields_shown d t o s) o → OffsetAgrees (fields_shown d t o s) o
offset_agrees d t o s h OffsetPart.Hour =
    shown_amount s.offset_hour o.is_negative o.seconds (o.seconds / 3600) (o.seconds / 3600) refl
offset_agrees d t o s h OffsetPart.Minute = zero_without s.offset_minute (o.seconds / 60 % 60) h.0
offset_agrees d t o s h OffsetPart.Second = zero_without s.offset_second (o.seconds % 60) h.1

-- What was read is what is shown.

abbrev fields_in : Fields → Result Fields ReadError → Fields
fields_in f (Ok g) = g
fields_in f (Err e) = f

pub read_is : (d : Date) (t : Time) (o : UtcOffset) (tree : Tree) (f : Fields) → IsReadBack d t o tree f
    → fields_shown d t o (shows tree) ≡ f
read_is d t o tree f h =
    ap (fields_in f) (sym (reads_back h.moment d t o tree h.text h.is_of h.settles h.wrote) ∙ h.read)

of_date : (d : Date) (t : Time) (o : UtcOffset) (tree : Tree) (f : Fields) → IsReadBack d t o tree f
    → DateAgrees f d
of_date d t o tree f h =
    subst (λ (g : Fields). DateAgrees g d) (read_is d t o tree f h) (date_agrees d t o (shows tree))

of_time : (d : Date) (t : Time) (o : UtcOffset) (tree : Tree) (f : Fields) → IsReadBack d t o tree f
    → HasNoMoreTime f t → TimeAgrees f t
of_time d t o tree f h =
    subst (λ (g : Fields). HasNoMoreTime g t → TimeAgrees g t) (read_is d t o tree f h)
    (time_agrees d t o (shows tree))

of_offset : (d : Date) (t : Time) (o : UtcOffset) (tree : Tree) (f : Fields) → IsReadBack d t o tree f
    → HasNoMoreOffset f o → OffsetAgrees f o
of_offset d t o tree f h =
    subst (λ (g : Fields). HasNoMoreOffset g o → OffsetAgrees g o) (read_is d t o tree f h)
    (offset_agrees d t o (shows tree))

-- The laws.

pub date_read_back : DateReadBack
date_read_back d t o tree f r h none way is = date_back f d r none way (of_date d t o tree f h) is

pub time_read_back : TimeReadBack
time_read_back d t o tree f r h none clock more is =
    time_back f t r none clock (of_time d t o tree f h more) is

pub offset_read_back : OffsetReadBack
offset_read_back d t o tree f r h shift more is = offset_back f o r shift (of_offset d t o tree f h more) is

pub instant_read_back : InstantReadBack
instant_read_back d t o tree f r h none way clock shift time offset is =
    instant_back f d t o r none way clock shift (of_date d t o tree f h) (of_time d t o tree f h time)
    (of_offset d t o tree f h offset) is

pub moment_read_back : MomentReadBack
moment_read_back d t o tree f r h none date time offset is =
    moment_back f d t o r none (λ e. (date e, of_date d t o tree f h))
    (λ e. ((time e).0, of_time d t o tree f h (time e).1))
    (λ e. ((offset e).0, of_offset d t o tree f h (offset e).1)) is

zero_again : (read : Option ℕ) (n : ℕ) → is_count_or_zero read n ≡ true
    → IsZeroWithout (if_shown (is_some read) n) n
zero_again None n e = eqb-true n 0 e
zero_again (Some k) n e = tt

ends_again : (read : Option Fraction) (n : ℕ) → IsWhole read → is_fraction read n ≡ true
    → EndsWith (cut_where (digits_of read) n) n
ends_again None n h e = eqb-true n 0 e
ends_again (Some read) n h e =
    subst (λ (k : ℕ). k % unit read.digits ≡ 0) (eqb-true read.nanosecond n e) h

pub time_again : (d : Date) (t : Time) (o : UtcOffset) (f : Fields) → IsWhole f.subsecond → TimeAgrees f t
    → HasNoMoreTime (fields_shown d t o (parts f)) t
time_again d t o f whole h = (
  zero_again f.minute t.minute (h TimePart.Minute),
  zero_again f.second t.second (h TimePart.Second),
  ends_again f.subsecond t.nanosecond whole (h TimePart.Subsecond),
)

pub offset_again : (d : Date) (t : Time) (o : UtcOffset) (f : Fields) → OffsetAgrees f o
    → HasNoMoreOffset (fields_shown d t o (parts f)) o
offset_again d t o f h = (
  zero_again f.offset_minute (o.seconds / 60 % 60) (h OffsetPart.Minute),
  zero_again f.offset_second (o.seconds % 60) (h OffsetPart.Second),
)
