-- A date that agrees with the fields has the fields of their way, and is the only one that does.
use Rattle.std.proofs.Common.{ℕ, ◌≡◌, ◌∙◌, ◌+◌, ◌-◌, ◌≤◌, ◌==◌, ◌&&◌, Bool, true, false, nat_le, nat_lt, Option, Some, None, Result, Ok, Err, if◌then◌else◌, refl, sym, ap, subst, arith}
use Rattle.std.specs.Prelude.{⊤, is_some}
use Rattle.std.proofs.lemmas.Bool.{eq-eqb, eqb-true}
use Rattle.timefd_date_moment.specs.declared.fields.fields.Fields.{Fields}
use Rattle.timefd_date_moment.specs.declared.date.Date.{Date}
use Rattle.timefd_date_moment.specs.Calendar.{IsDay, days_in_year}
use Rattle.timefd_date_moment.specs.Moments as of
use Rattle.timefd_date_moment.proofs.LawLemmas as law
use Rattle.timefd_date_moment.specs.declared.reading.part.DatePart.{DatePart}
use Rattle.timefd_date_moment.specs.declared.reading.way.DateWay.{DateWay}
use Rattle.timefd_date_moment.specs.declared.reading.way.DateWay.TheVariants as by
use Rattle.timefd_date_moment.specs.Reading.Dates.{IsSame}
use Rattle.timefd_date_moment.specs.Reading.Shown.{DateAgrees, is_count}
use Rattle.timefd_date_moment.specs.Reading.Ways.{WayHas, calendar, date_way, has_way, iso_week, lack, monday_week, or_else, ordinal, sunday_week, unless, way_of}
use Rattle.timefd_date_moment.specs.Reading.Years.{years_read}
use Rattle.timefd_date_moment.proofs.ReadingLemmas.DayLemmas as day
use Rattle.timefd_date_moment.proofs.ReadingLemmas.ShownLemmas.{dated, same_by}
use Rattle.timefd_date_moment.proofs.ReadingLemmas.YearLemmas.{Known, both, years_known}

abbrev Has : Option DateWay → Date → Type 0
Has None d = ⊤
Has (Some w) d = WayHas w d

has_calendar : (y m n : Option ℕ) (d : Date) → Known y d.years → is_count m d.month ≡ true
    → is_count n d.day ≡ true → Has (calendar y m n) d
has_calendar None m n d k e g = tt
has_calendar (Some y) None n d k e g = tt
has_calendar (Some y) (Some m) None d k e g = tt
has_calendar (Some y) (Some m) (Some n) d k e g = (k, eqb-true m d.month e, eqb-true n d.day g)

has_ordinal : (y n : Option ℕ) (d : Date) → Known y d.years → is_count n (of.date_ordinal d) ≡ true
    → Has (ordinal y n) d
has_ordinal None n d k e = tt
has_ordinal (Some y) None d k e = tt
has_ordinal (Some y) (Some n) d k e = (k, eqb-true n (of.date_ordinal d) e)

has_iso_week : (y w n : Option ℕ) (d : Date) → Known y (of.iso_years d)
    → is_count w (of.iso_week d) ≡ true → is_count n (of.days_from_monday d) ≡ true
    → Has (iso_week y w n) d
has_iso_week None w n d k e g = tt
has_iso_week (Some y) None n d k e g = tt
has_iso_week (Some y) (Some w) None d k e g = tt
has_iso_week (Some y) (Some w) (Some n) d k e g =
    (k, eqb-true w (of.iso_week d) e, eqb-true n (of.days_from_monday d) g)

has_sunday_week : (y w n : Option ℕ) (d : Date) → Known y d.years
    → is_count w (of.sunday_week d) ≡ true → is_count n (of.days_from_monday d) ≡ true
    → Has (sunday_week y w n) d
has_sunday_week None w n d k e g = tt
has_sunday_week (Some y) None n d k e g = tt
has_sunday_week (Some y) (Some w) None d k e g = tt
has_sunday_week (Some y) (Some w) (Some n) d k e g =
    (k, eqb-true w (of.sunday_week d) e, eqb-true n (of.days_from_monday d) g)

has_monday_week : (y w n : Option ℕ) (d : Date) → Known y d.years
    → is_count w (of.monday_week d) ≡ true → is_count n (of.days_from_monday d) ≡ true
    → Has (monday_week y w n) d
has_monday_week None w n d k e g = tt
has_monday_week (Some y) None n d k e g = tt
has_monday_week (Some y) (Some w) None d k e g = tt
has_monday_week (Some y) (Some w) (Some n) d k e g =
    (k, eqb-true w (of.monday_week d) e, eqb-true n (of.days_from_monday d) g)

has_first : (a b : Option DateWay) (d : Date) → Has a d → Has b d → Has (or_else a b) d
has_first (Some w) b d h k = h
has_first None b d h k = k

way_of_agreed : (f : Fields) (years iso_years : Option ℕ) (d : Date) → Known years d.years
    → Known iso_years (of.iso_years d) → DateAgrees f d → Has (way_of f years iso_years) d
way_of_agreed f years iso_years d k i a =
    let monday = monday_week years f.monday_week f.weekday in
    let sunday = sunday_week years f.sunday_week f.weekday in
    let iso = iso_week iso_years f.iso_week f.weekday in
    let position = ordinal years f.ordinal in
    has_first (calendar years f.month f.day)
    (or_else position (or_else iso (or_else sunday monday))) d
    (has_calendar years f.month f.day d k (a DatePart.Month) (a DatePart.Day))
    (has_first position (or_else iso (or_else sunday monday)) d
    (has_ordinal years f.ordinal d k (a DatePart.Ordinal))
    (has_first iso (or_else sunday monday) d
    (has_iso_week iso_years f.iso_week f.weekday d i (a DatePart.IsoWeek) (a DatePart.Weekday))
    (has_first sunday monday d
    (has_sunday_week years f.sunday_week f.weekday d k (a DatePart.SundayWeek) (a DatePart.Weekday))
    (has_monday_week years f.monday_week f.weekday d k (a DatePart.MondayWeek) (a DatePart.Weekday)))))

abbrev way_in : DateWay → Result DateWay DatePart → DateWay
way_in w (Ok v) = v
way_in w (Err p) = w

chosen : (p : DatePart) (o : Option DateWay) (w : DateWay) (d : Date) → unless p o ≡ Ok w → Has o d
    → WayHas w d
chosen p None w d e h = absurd cc
chosen p (Some v) w d e h = subst (λ x. WayHas x d) (ap (way_in v) e) h

iso_within : (d : Date) → of.iso_years d ≤ 2000000
iso_within d =
    at d.years (nat_le (of.thursday d) 7) (nat_lt (days_in_year d.years + 7) (of.thursday d)) d.exists.1
  where
    at : (y : ℕ) (t u : Bool) → y ≤ 1999999
        → (if t then y - 1 else (if u then y + 1 else y)) ≤ 2000000
    at y true u h = omega (arith, h)
    at y false true h = omega (arith, h)
    at y false false h = omega (arith, h)

pub way_has : (f : Fields) (w : DateWay) (d : Date) → date_way f ≡ Ok w → DateAgrees f d → WayHas w d
way_has f w d e a =
    let years = years_read f.year f.century f.year_last_two in
    let iso_years = years_read f.iso_year f.iso_century f.iso_year_last_two in
    chosen (lack f (is_some years) (is_some iso_years)) (way_of f years iso_years) w d e
    (way_of_agreed f years iso_years d
    (years_known f.year f.century f.year_last_two d.years (omega (arith, d.exists.1)) (a DatePart.Year)
    (a DatePart.Century) (a DatePart.YearLastTwo))
    (years_known f.iso_year f.iso_century f.iso_year_last_two (of.iso_years d) (iso_within d)
    (a DatePart.IsoYear) (a DatePart.IsoCentury) (a DatePart.IsoYearLastTwo)) a)

-- two dates that have the fields of a way are the same
pub one_way : (w : DateWay) (d e : Date) → WayHas w d → WayHas w e → IsSame d e
one_way (by.Calendar y m n) d e h k = (sym h.0 ∙ k.0, sym h.1 ∙ k.1, sym h.2 ∙ k.2)
one_way (by.Ordinal y n) d e h k =
    law.one_date d e (day.ordinal y n d h.0 h.1 ∙ sym (day.ordinal y n e k.0 k.1))
one_way (by.IsoWeek y w n) d e h k =
    law.one_date d e (day.iso y w n d h.0 h.1 h.2 ∙ sym (day.iso y w n e k.0 k.1 k.2))
one_way (by.SundayWeek y w n) d e h k =
    law.one_date d e (day.sunday y w n d h.0 h.1 h.2 ∙ sym (day.sunday y w n e k.0 k.1 k.2))
one_way (by.MondayWeek y w n) d e h k =
    law.one_date d e (day.monday y w n d h.0 h.1 h.2 ∙ sym (day.monday y w n e k.0 k.1 k.2))

-- the test of the fields of a way

pub has_fields : (w : DateWay) (d : Date) → has_way w d ≡ true → WayHas w d
has_fields (by.Calendar y m n) d e =
    let h = both ((y == d.years) && (m == d.month)) (n == d.day) e in
    let k = both (y == d.years) (m == d.month) h.0 in
    (eqb-true y d.years k.0, eqb-true m d.month k.1, eqb-true n d.day h.1)
has_fields (by.Ordinal y n) d e =
    let h = both (y == d.years) (n == of.date_ordinal d) e in
    (eqb-true y d.years h.0, eqb-true n (of.date_ordinal d) h.1)
has_fields (by.IsoWeek y w n) d e =
    let h = both ((y == of.iso_years d) && (w == of.iso_week d)) (n == of.days_from_monday d) e in
    let k = both (y == of.iso_years d) (w == of.iso_week d) h.0 in
    (eqb-true y (of.iso_years d) k.0, eqb-true w (of.iso_week d) k.1, eqb-true n (of.days_from_monday d) h.1)
has_fields (by.SundayWeek y w n) d e =
    let h = both ((y == d.years) && (w == of.sunday_week d)) (n == of.days_from_monday d) e in
    let k = both (y == d.years) (w == of.sunday_week d) h.0 in
    (eqb-true y d.years k.0, eqb-true w (of.sunday_week d) k.1, eqb-true n (of.days_from_monday d) h.1)
has_fields (by.MondayWeek y w n) d e =
    let h = both ((y == d.years) && (w == of.monday_week d)) (n == of.days_from_monday d) e in
    let k = both (y == d.years) (w == of.monday_week d) h.0 in
    (eqb-true y d.years k.0, eqb-true w (of.monday_week d) k.1, eqb-true n (of.days_from_monday d) h.1)

all_of : (a b : Bool) → a ≡ true → b ≡ true → (a && b) ≡ true
all_of true b e g = g
all_of false b e g = absurd cc

pub fields_had : (w : DateWay) (d : Date) → WayHas w d → has_way w d ≡ true
fields_had (by.Calendar y m n) d h =
    all_of _ _ (all_of _ _ (eq-eqb y d.years h.0) (eq-eqb m d.month h.1)) (eq-eqb n d.day h.2)
fields_had (by.Ordinal y n) d h =
    all_of _ _ (eq-eqb y d.years h.0) (eq-eqb n (of.date_ordinal d) h.1)
fields_had (by.IsoWeek y w n) d h =
    all_of _ _ (all_of _ _ (eq-eqb y (of.iso_years d) h.0) (eq-eqb w (of.iso_week d) h.1))
    (eq-eqb n (of.days_from_monday d) h.2)
fields_had (by.SundayWeek y w n) d h =
    all_of _ _ (all_of _ _ (eq-eqb y d.years h.0) (eq-eqb w (of.sunday_week d) h.1))
    (eq-eqb n (of.days_from_monday d) h.2)
fields_had (by.MondayWeek y w n) d h =
    all_of _ _ (all_of _ _ (eq-eqb y d.years h.0) (eq-eqb w (of.monday_week d) h.1))
    (eq-eqb n (of.days_from_monday d) h.2)

same_fields : (w : DateWay) (y m n : ℕ) (a b : IsDay y m n)
    → has_way w (dated y m n a) ≡ has_way w (dated y m n b)
same_fields (by.Calendar x k l) y m n a b = refl
same_fields (by.Ordinal x k) y m n a b = refl
same_fields (by.IsoWeek x k l) y m n a b = refl
same_fields (by.SundayWeek x k l) y m n a b = refl
same_fields (by.MondayWeek x k l) y m n a b = refl

pub same_way : (w : DateWay) (e d : Date) → IsSame e d → has_way w e ≡ has_way w d
same_way w e d s = same_by (has_way w) (same_fields w) e d s
