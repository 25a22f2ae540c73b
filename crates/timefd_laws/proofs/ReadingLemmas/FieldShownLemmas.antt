-- Each component shows something for a moment if its field was read.
use Rattle.std.proofs.Common.{ℕ, ◌≡◌, ◌∙◌, ◌≤◌, ◌+◌, ◌*◌, ◌/◌, ◌==◌, ◌||◌, Bool, true, nat_le, if◌then◌else◌}
use Rattle.std.proofs.Common.{Option, Some, None, Result, Ok, Err, refl, ap, subst, arith, is_ok}
use Rattle.std.proofs.lemmas.Bool.{eqb-true, le-leb}
use Rattle.timefd_lang_component.specs.declared.component.Component.{Component}
use Rattle.timefd_lang_component.specs.declared.component.Component.TheVariants as of
use Rattle.timefd_date_format.specs.declared.field.WrittenField.{WrittenField}
use Rattle.timefd_date_format.specs.Kinds.{Kind}
use Rattle.timefd_date_format.specs.Kinds as kinds
use Rattle.timefd_date_format.specs.declared.field.Lack.{Lack}
use Rattle.timefd_date_format.specs.declared.field.Lack.TheVariants as lack
use Rattle.timefd_date_format.specs.Fields.{by_kind, date_field, field, instant_field, kind, offset_field, on_date, on_offset}
use Rattle.timefd_date_format.specs.Fields.{on_time}
use Rattle.timefd_date_format.specs.Fields.{signed, stamp_field, time_field, year}
use Rattle.timefd_modifier.specs.declared.enums.Padding.{Padding}
use Rattle.timefd_date_moment.specs.declared.date.Date.{Date}
use Rattle.timefd_date_moment.specs.declared.time.Time.{Time}
use Rattle.timefd_date_moment.specs.declared.offset.UtcOffset.{UtcOffset}
use Rattle.timefd_date_moment.specs.declared.moment.Moment.{Moment}
use Rattle.timefd_date_moment.specs.Instants.{is_within}
use Rattle.timefd_date_moment.specs.Moments.{is_before_zero, iso_years, magnitude, unix_time}
use Rattle.timefd_date_moment.specs.declared.fields.fields.Fields.{Fields}
use Rattle.timefd_date_moment.specs.declared.fields.fields.Signed.{Signed}
use Rattle.timefd_date_moment.specs.Fields.Readings.{same}
use Rattle.timefd_date_moment.specs.declared.reading.part.DatePart.{DatePart}
use Rattle.timefd_date_moment.specs.Reading.Shown.{is_century, is_shown, is_year}
use Rattle.timefd_date_moment.proofs.ReadingLemmas.YearLemmas.{both}
use Rattle.timefd_laws.proofs.ReadingLemmas.ComponentReadLemmas.{range_of}
use Rattle.timefd_laws.proofs.ReadingLemmas.GrowLemmas.{InRange, IsAtMost, years}
use Rattle.timefd_laws.proofs.ReadingLemmas.MomentKnownLemmas.{Has, HasDate}

pub date_shown : (m : Moment) (f : Fields) (h : HasDate m f) (c : Component) → is_ok (date_field h.date c) ≡ true
    → is_ok (on_date m.date (λ d. date_field d c)) ≡ true
date_shown m f h c e = ap (λ (x : Option Date). is_ok (on_date x (λ d. date_field d c))) h.is ∙ e

abbrev instant_by : Option Date → Option Time → Option UtcOffset → Component → Result WrittenField Lack
instant_by x y z c =
    on_date x (λ d. on_time y (λ t. on_offset z (λ o. instant_field (unix_time d t o) c)))

if_ok : {A E : Type 0} (b : Bool) (a : A) (e : E) → b ≡ true → is_ok (if b then Ok a else Err e) ≡ true
if_ok b a e is = ap (λ x. is_ok (if x then Ok a else Err e)) is

-- The year of the date is no greater than the year that was read.

part_small : (x : Option Signed) (negative : Bool) (whole part n : ℕ) → IsAtMost n x
    → is_shown x negative whole part ≡ true → part ≤ n
part_small None negative whole part n h e = absurd h
part_small (Some s) negative whole part n h e =
    let is : s.magnitude ≡ part =
    eqb-true s.magnitude part (both (s.magnitude == part) ((whole == 0) || same s.is_negative negative) e).0 in
    subst (λ (k : ℕ). k ≤ n) is h

pub year_shown : (greatest width unit : ℕ) (padding : Padding) (mandatory : Bool) (years : ℕ) → magnitude years ≤ greatest
    → is_ok (year greatest width unit padding mandatory years) ≡ true
year_shown greatest width unit padding mandatory years h =
    if_ok (nat_le (magnitude years) greatest)
    (signed (is_before_zero years) (mandatory || nat_le 10000 (magnitude years)) padding width (magnitude years / unit))
    lack.YearTooLong (le-leb (magnitude years) greatest h)

full_shown : (greatest width : ℕ) (padding : Padding) (mandatory : Bool) (x : Option Signed) (years : ℕ)
    → IsAtMost greatest x → is_year x years ≡ true → is_ok (year greatest width 1 padding mandatory years) ≡ true
full_shown greatest width padding mandatory x years h e =
    year_shown greatest width 1 padding mandatory years
    (part_small x (is_before_zero years) (magnitude years) (magnitude years) greatest h e)

hundreds : (n k greatest : ℕ) → k * 100 + 99 ≤ greatest → n / 100 ≤ k → n ≤ greatest
hundreds n k greatest most h = omega (arith, most, h)

century_shown : (greatest k : ℕ) (padding : Padding) (mandatory : Bool) (x : Option Signed) (years : ℕ)
    → k * 100 + 99 ≤ greatest → IsAtMost k x → is_century x years ≡ true
    → is_ok (year greatest 2 100 padding mandatory years) ≡ true
century_shown greatest k padding mandatory x years most h e =
    year_shown greatest 2 100 padding mandatory years
    (hundreds (magnitude years) k greatest most
    (part_small x (is_before_zero years) (magnitude years) (magnitude years / 100) k h e))

module _ (m : Moment) (f : Fields) where
  by_kind_shown : (k : Kind) (c : Component) → Has k m f → ((d : Date) → is_ok (date_field d c) ≡ true)
      → is_ok (by_kind k m c) ≡ true
  by_kind_shown kinds.Date c h e = date_shown m f h c (e h.date)
  by_kind_shown kinds.Time c h e = ap (λ (x : Option Time). is_ok (on_time x (λ t. Ok (time_field t c)))) h.is
  by_kind_shown kinds.Offset c h e = ap (λ (x : Option UtcOffset). is_ok (on_offset x (λ o. Ok (offset_field o c)))) h.is
  by_kind_shown kinds.Instant c h e =
      (λ i. is_ok (instant_by (h.is_date i) (h.is_time i) (h.is_offset i) c))
      ∙ if_ok (is_within (unix_time h.date h.time h.offset)) (stamp_field (unix_time h.date h.time h.offset) c)
      lack.InstantOutOfRange h.within
  by_kind_shown kinds.Nothing c h e = refl

  pub component_shown : (c : Component) → Has (kind c) m f → InRange (range_of c) (years f)
      → is_ok (field m c) ≡ true
  component_shown (of.CalendarYearFullExtendedRange c) h r = date_shown m f h (of.CalendarYearFullExtendedRange c)
      (full_shown 999999 4 c.padding c.sign_is_mandatory f.year h.date.years r (h.agrees DatePart.Year))
  component_shown (of.CalendarYearFullStandardRange c) h r = date_shown m f h (of.CalendarYearFullStandardRange c)
      (full_shown 9999 4 c.padding c.sign_is_mandatory f.year h.date.years r (h.agrees DatePart.Year))
  component_shown (of.CalendarYearCenturyExtendedRange c) h r = date_shown m f h (of.CalendarYearCenturyExtendedRange c)
      (century_shown 999999 9999 c.padding c.sign_is_mandatory f.century h.date.years (omega arith) r
      (h.agrees DatePart.Century))
  component_shown (of.CalendarYearCenturyStandardRange c) h r = date_shown m f h (of.CalendarYearCenturyStandardRange c)
      (century_shown 9999 99 c.padding c.sign_is_mandatory f.century h.date.years (omega arith) r (h.agrees DatePart.Century))
  component_shown (of.IsoYearFullExtendedRange c) h r = date_shown m f h (of.IsoYearFullExtendedRange c)
      (full_shown 999999 4 c.padding c.sign_is_mandatory f.iso_year (iso_years h.date) r (h.agrees DatePart.IsoYear))
  component_shown (of.IsoYearFullStandardRange c) h r = date_shown m f h (of.IsoYearFullStandardRange c)
      (full_shown 9999 4 c.padding c.sign_is_mandatory f.iso_year (iso_years h.date) r (h.agrees DatePart.IsoYear))
  component_shown (of.IsoYearCenturyExtendedRange c) h r = date_shown m f h (of.IsoYearCenturyExtendedRange c)
      (century_shown 999999 9999 c.padding c.sign_is_mandatory f.iso_century (iso_years h.date) (omega arith) r
      (h.agrees DatePart.IsoCentury))
  component_shown (of.IsoYearCenturyStandardRange c) h r = date_shown m f h (of.IsoYearCenturyStandardRange c)
      (century_shown 9999 99 c.padding c.sign_is_mandatory f.iso_century (iso_years h.date) (omega arith) r
      (h.agrees DatePart.IsoCentury))
  component_shown c h r = by_kind_shown (kind c) c h (λ d. refl)
