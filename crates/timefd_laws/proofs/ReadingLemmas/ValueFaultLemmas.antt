-- The errors of dates, times of day and offsets name what was read, or what wasn't.
use Rattle.std.proofs.Common.{ℕ, ◌≡◌, ◌∙◌, ◌≤◌, ◌<◌, ◌+◌, ◌/◌, ◌%◌, ◌==◌, ◌&&◌, ◌||◌, ◌⊎◌, inl, inr, Bool, true, false, nat_le, nat_lt, if◌then◌else◌, List, [], ◌∷◌, Option, Some, None, Result, Ok, Err, IsTrue, refl, sym, ap, subst, arith}
use Rattle.std.specs.Prelude.{IfSome, is_some, ⊤}
use Rattle.std.proofs.lemmas.Bool.{eq-eqb, ltb-true}
use Rattle.timefd_date_moment.specs.declared.fields.fields.Fields.{Fields}
use Rattle.timefd_date_moment.specs.declared.fields.fields.Fraction.{Fraction}
use Rattle.timefd_date_moment.specs.declared.fields.fields.Signed.{Signed}
use Rattle.timefd_date_moment.specs.declared.date.Date.{Date}
use Rattle.timefd_date_moment.specs.declared.time.Time.{Time}
use Rattle.timefd_date_moment.specs.declared.offset.UtcOffset.{UtcOffset}
use Rattle.timefd_date_moment.specs.declared.reading.error.ValueError.{ValueError}
use Rattle.timefd_date_moment.specs.declared.reading.error.ValueError.TheVariants as error
use Rattle.timefd_date_moment.specs.declared.reading.part.DatePart.{DatePart}
use Rattle.timefd_date_moment.specs.declared.reading.part.OffsetPart.{OffsetPart}
use Rattle.timefd_date_moment.specs.declared.reading.part.Part.{Part}
use Rattle.timefd_date_moment.specs.declared.reading.part.Part.TheVariants as part
use Rattle.timefd_date_moment.specs.declared.reading.part.TimePart.{TimePart}
use Rattle.timefd_date_moment.specs.Reading.Dates as dates
use Rattle.timefd_date_moment.specs.Reading.Dates.{HasWay, IsDateByParts}
use Rattle.timefd_date_moment.specs.Reading.Faults.{IsNamed, clock_fault, date_fault, is_above, is_beyond, iso_year_fault, month_fault, offset_fault, shift_fault, time_fault, way_fault, weekday_fault, year_fault}
use Rattle.timefd_date_moment.specs.Reading.Offsets as offsets
use Rattle.timefd_date_moment.specs.Reading.Offsets.{HasShift, IsOffsetOf, ShiftHas, shift_at, shift_read}
use Rattle.timefd_date_moment.specs.Reading.Shown.{date_has, date_parts, first_false, is_count, is_count_or_zero, is_flag, is_fraction, is_shown, offset_has, offset_parts, time_has, time_parts}
use Rattle.timefd_date_moment.specs.Reading.Times as times
use Rattle.timefd_date_moment.specs.Reading.Times.{ClockHas, HasClock, IsTimeByParts, clock_at, clock_from, clock_read, has_second, hour_by_period, hour_read, is_left_out, lack_of_hour, nanosecond_read, number}
use Rattle.timefd_date_moment.specs.Reading.Ways.{IsDetermined, calendar, date_way, iso_week, lack, monday_week, or_else, ordinal, sunday_week, unless, way_of}
use Rattle.timefd_date_moment.specs.Reading.Years.{years_of_century, years_read}
use Rattle.timefd_date_moment.proofs.ReadingLemmas.ShownLemmas.{clash}
use Rattle.timefd_laws.specs.Reading.ValueFaults.{NamesRead, date_is_read, offset_is_read, time_is_read}

-- What a test shows.

-- what holds in both cases
pub chosen : {A : Type 0} (P : A → Type 0) (b : Bool) (x y : A) → (b ≡ true → P x) → (b ≡ false → P y)
    → P (if b then x else y)
chosen P true x y p q = p refl
chosen P false x y p q = q refl

-- The first part that a value disagrees with is really one that it disagrees with.
pub first_is : {A : Type 0} (has : A → Bool) (ps : List A) (p : A) → first_false has ps ≡ Some p → has p ≡ false
first_is has [] p e = absurd cc
first_is has (q ∷ ps) p e = by (has q) refl e (λ f. first_is has ps p f)
  where
    by : (b : Bool) → has q ≡ b → (if b then first_false has ps else Some q) ≡ Some p
        → (first_false has ps ≡ Some p → has p ≡ false) → has p ≡ false
    by true is e more = more e
    by false is e more = let same : q ≡ p = cc in sym (ap has same) ∙ is

-- The part that is named was read: each value agrees with parts that weren't read, and if there is no value,
-- a part that was read is named.
pub named_read : {A P : Type 0} (Has : A → Type 0) (has : A → P → Bool) (ps : List P) (fault : Option P)
    (is_read : P → Bool) (p : P) → IsNamed Has (λ a. first_false (has a) ps) fault p
    → ((a : A) → Has a → is_read p ≡ false → has a p ≡ true) → IfSome fault (λ q. is_read q ≡ true)
    → is_read p ≡ true
named_read Has has ps fault is_read p named unread read = by (is_read p) refl
  where
    by : (b : Bool) → is_read p ≡ b → b ≡ true
    by true is = refl
    by false is =
        let none : fault ≡ Some p = named.1 (λ a h.
        clash (has a p) (first_is (has a) ps p (named.0 a h)) (unread a h is)) in
        sym is ∙ subst (λ o. IfSome o (λ q. is_read q ≡ true)) none read

pub count_unread : (o : Option ℕ) (n : ℕ) → is_some o ≡ false → is_count o n ≡ true
count_unread None n e = refl
count_unread (Some k) n e = absurd (clash true e refl)

pub flag_unread : (o : Option Bool) (b : Bool) → is_some o ≡ false → is_flag o b ≡ true
flag_unread None b e = refl
flag_unread (Some a) b e = absurd (clash true e refl)

pub shown_unread : (o : Option Signed) (b : Bool) (whole n : ℕ) → is_some o ≡ false → is_shown o b whole n ≡ true
shown_unread None b whole n e = refl
shown_unread (Some s) b whole n e = absurd (clash true e refl)

zero_unread : (o : Option ℕ) (n : ℕ) → is_some o ≡ false → number o ≡ n → is_count_or_zero o n ≡ true
zero_unread None n e is = eq-eqb n 0 (sym is)
zero_unread (Some k) n e is = absurd (clash true e refl)

fraction_unread : (o : Option Fraction) (n : ℕ) → is_some o ≡ false → nanosecond_read o ≡ n → is_fraction o n ≡ true
fraction_unread None n e is = eq-eqb n 0 (sym is)
fraction_unread (Some k) n e is = absurd (clash true e refl)

beyond_read : (o : Option Signed) (n : ℕ) → is_beyond o n ≡ true → is_some o ≡ true
beyond_read None n e = absurd (clash false refl e)
beyond_read (Some s) n e = refl

above_read : (o : Option ℕ) (n : ℕ) → is_above o n ≡ true → is_some o ≡ true
above_read None n e = absurd (clash false refl e)
above_read (Some k) n e = refl

great_read : (o : Option ℕ) (n : ℕ) → nat_lt n (number o) ≡ true → is_some o ≡ true
great_read None n e = absurd (omega (arith, ltb-true n 0 e))
great_read (Some k) n e = refl

fine_read : (o : Option Fraction) (n : ℕ) → nat_lt n (nanosecond_read o) ≡ true → is_some o ≡ true
fine_read None n e = absurd (omega (arith, ltb-true n 0 e))
fine_read (Some k) n e = refl

-- Dates.

unless_is : (q p : DatePart) (w : _) → unless q w ≡ Err p → (w ≡ None) × (q ≡ p)
unless_is q p None e = (refl, cc)
unless_is q p (Some w) e = absurd (unfailing e)
  where
    unfailing : {A E : Type 0} {a : A} {b : E} → Ok a ≡ Err b → ⊥
    unfailing e = cc

or_none : (a b : _) → or_else a b ≡ None → (a ≡ None) × (b ≡ None)
or_none None b e = (refl, e)
or_none (Some w) b e = absurd (clash true (ap is_some e) refl)

calendar_lacks : (y m d : Option ℕ) → calendar y m d ≡ None → is_some y ≡ true → is_some m ≡ true → is_some d ≡ false
calendar_lacks None m d e y n = absurd (clash false refl y)
calendar_lacks (Some y) None d e k m = absurd (clash false refl m)
calendar_lacks (Some y) (Some m) None e k n = refl
calendar_lacks (Some y) (Some m) (Some d) e k n = absurd (clash true (ap is_some e) refl)

iso_lacks : (y w d : Option ℕ) → iso_week y w d ≡ None → is_some y ≡ true → is_some w ≡ true → is_some d ≡ false
iso_lacks None w d e y n = absurd (clash false refl y)
iso_lacks (Some y) None d e k w = absurd (clash false refl w)
iso_lacks (Some y) (Some w) None e k n = refl
iso_lacks (Some y) (Some w) (Some d) e k n = absurd (clash true (ap is_some e) refl)

sunday_lacks : (y w d : Option ℕ) → sunday_week y w d ≡ None → is_some y ≡ true → is_some w ≡ true
    → is_some d ≡ false
sunday_lacks None w d e y n = absurd (clash false refl y)
sunday_lacks (Some y) None d e k w = absurd (clash false refl w)
sunday_lacks (Some y) (Some w) None e k n = refl
sunday_lacks (Some y) (Some w) (Some d) e k n = absurd (clash true (ap is_some e) refl)

monday_lacks : (y w d : Option ℕ) → monday_week y w d ≡ None → is_some y ≡ true → is_some w ≡ true
    → is_some d ≡ false
monday_lacks None w d e y n = absurd (clash false refl y)
monday_lacks (Some y) None d e k w = absurd (clash false refl w)
monday_lacks (Some y) (Some w) None e k n = refl
monday_lacks (Some y) (Some w) (Some d) e k n = absurd (clash true (ap is_some e) refl)

no_year : (y c : Option Signed) (n : Option ℕ) → is_some (years_read y c n) ≡ false → is_some y ≡ false
no_year None c n e = refl
no_year (Some y) c n e = absurd (clash true e refl)

no_last_two : (y c : Option Signed) (n : Option ℕ) → is_some (years_read y c n) ≡ false → is_some c ≡ true
    → is_some n ≡ false
no_last_two (Some y) c n e k = absurd (clash true e refl)
no_last_two None None n e k = absurd (clash false refl k)
no_last_two None (Some c) None e k = refl
no_last_two None (Some c) (Some n) e k = absurd (clash true e refl)

-- what is missing besides what was read
module _ (f : Fields) (y iy : Option ℕ) (no_date : calendar y f.month f.day ≡ None)
    (no_iso : iso_week iy f.iso_week f.weekday ≡ None) (no_sunday : sunday_week y f.sunday_week f.weekday ≡ None)
    (no_monday : monday_week y f.monday_week f.weekday ≡ None)
    (no_y : is_some y ≡ false → is_some (years_read f.year f.century f.year_last_two) ≡ false)
    (no_iy : is_some iy ≡ false → is_some (years_read f.iso_year f.iso_century f.iso_year_last_two) ≡ false) where
  abbrev Unread : DatePart → Type 0
  Unread p = date_is_read f p ≡ false

  no_weeks : (a b : Bool) → is_some f.sunday_week ≡ a → is_some f.monday_week ≡ b → is_some y ≡ true
      → is_some f.month ≡ false → Unread (if a || b then DatePart.Weekday else DatePart.Month)
  no_weeks true b s m h n = sunday_lacks y f.sunday_week f.weekday no_sunday h s
  no_weeks false true s m h n = monday_lacks y f.monday_week f.weekday no_monday h m
  no_weeks false false s m h n = n

  pub lacking : Unread (lack f (is_some y) (is_some iy))
  lacking =
      chosen Unread (is_some f.iso_week) _ _
      (λ week. chosen Unread (is_some iy) DatePart.Weekday DatePart.IsoYear
      (λ h. iso_lacks iy f.iso_week f.weekday no_iso h week)
      (λ h. no_year f.iso_year f.iso_century f.iso_year_last_two (no_iy h)))
      (λ week. chosen Unread (is_some y) _ _
      (λ h. chosen Unread (is_some f.month) _ _
      (λ m. calendar_lacks y f.month f.day no_date h m)
      (λ m. no_weeks (is_some f.sunday_week) (is_some f.monday_week) refl refl h m))
      (λ h. chosen Unread (is_some iy) _ _ (λ k. week)
      (λ k. chosen Unread (is_some f.century) _ _
      (λ c. no_last_two f.year f.century f.year_last_two (no_y h) c)
      (λ c. chosen Unread (is_some f.year_last_two) _ _ (λ n. c)
      (λ n. no_year f.year f.century f.year_last_two (no_y h))))))

date_missing : (f : Fields) (p : DatePart) → date_way f ≡ Err p → date_is_read f p ≡ false
date_missing f p e =
    let y = years_read f.year f.century f.year_last_two in
    let iy = years_read f.iso_year f.iso_century f.iso_year_last_two in
    let is = unless_is (lack f (is_some y) (is_some iy)) p (way_of f y iy) e in
    let one = or_none (calendar y f.month f.day) _ is.0 in
    let two = or_none (ordinal y f.ordinal) _ one.1 in
    let three = or_none (iso_week iy f.iso_week f.weekday) _ two.1 in
    let four = or_none (sunday_week y f.sunday_week f.weekday) _ three.1 in
    subst (λ q. date_is_read f q ≡ false) is.1
    (lacking f y iy one.0 three.0 four.0 four.1 (λ h. h) (λ h. h))

module _ (f : Fields) where
  abbrev Was : DatePart → Type 0
  Was p = date_is_read f p ≡ true

  year_was : (other : DatePart) → Was other → Was (year_fault f other)
  year_was other was =
      chosen Was (is_beyond f.year 999999) _ _ (λ e. beyond_read f.year 999999 e)
      (λ e. chosen Was (is_beyond f.century 9999) _ _ (λ e. beyond_read f.century 9999 e)
      (λ e. chosen Was (is_above f.year_last_two 99) _ _ (λ e. above_read f.year_last_two 99 e) (λ e. was)))

  iso_year_was : (other : DatePart) → Was other → Was (iso_year_fault f other)
  iso_year_was other was =
      chosen Was (is_beyond f.iso_year 999999) _ _ (λ e. beyond_read f.iso_year 999999 e)
      (λ e. chosen Was (is_beyond f.iso_century 9999) _ _ (λ e. beyond_read f.iso_century 9999 e)
      (λ e. chosen Was (is_above f.iso_year_last_two 99) _ _ (λ e. above_read f.iso_year_last_two 99 e) (λ e. was)))

  calendar_was : (q : DatePart) (y m n : Option ℕ) → f.month ≡ m → f.day ≡ n
      → IfSome (date_fault f (unless q (calendar y m n))) Was
  calendar_was q None m n e g = tt
  calendar_was q (Some y) None n e g = tt
  calendar_was q (Some y) (Some m) None e g = tt
  calendar_was q (Some y) (Some m) (Some n) e g =
      year_was (month_fault m) (chosen Was ((m == 0) || nat_lt 12 m) _ _ (λ h. ap is_some e) (λ h. ap is_some g))

  ordinal_was : (q : DatePart) (y n : Option ℕ) → f.ordinal ≡ n → IfSome (date_fault f (unless q (ordinal y n))) Was
  ordinal_was q None n e = tt
  ordinal_was q (Some y) None e = tt
  ordinal_was q (Some y) (Some n) e = year_was DatePart.Ordinal (ap is_some e)

  iso_was : (q : DatePart) (y w n : Option ℕ) → f.iso_week ≡ w → f.weekday ≡ n
      → IfSome (date_fault f (unless q (iso_week y w n))) Was
  iso_was q None w n e g = tt
  iso_was q (Some y) None n e g = tt
  iso_was q (Some y) (Some w) None e g = tt
  iso_was q (Some y) (Some w) (Some n) e g =
      iso_year_was (weekday_fault n DatePart.IsoWeek) (chosen Was (nat_lt 6 n) _ _ (λ h. ap is_some g) (λ h. ap is_some e))

  sunday_was : (q : DatePart) (y w n : Option ℕ) → f.sunday_week ≡ w → f.weekday ≡ n
      → IfSome (date_fault f (unless q (sunday_week y w n))) Was
  sunday_was q None w n e g = tt
  sunday_was q (Some y) None n e g = tt
  sunday_was q (Some y) (Some w) None e g = tt
  sunday_was q (Some y) (Some w) (Some n) e g =
      year_was (weekday_fault n DatePart.SundayWeek) (chosen Was (nat_lt 6 n) _ _ (λ h. ap is_some g) (λ h. ap is_some e))

  monday_was : (q : DatePart) (y w n : Option ℕ) → f.monday_week ≡ w → f.weekday ≡ n
      → IfSome (date_fault f (unless q (monday_week y w n))) Was
  monday_was q None w n e g = tt
  monday_was q (Some y) None n e g = tt
  monday_was q (Some y) (Some w) None e g = tt
  monday_was q (Some y) (Some w) (Some n) e g =
      year_was (weekday_fault n DatePart.MondayWeek) (chosen Was (nat_lt 6 n) _ _ (λ h. ap is_some g) (λ h. ap is_some e))

  either : (q : DatePart) (a b : _) → IfSome (date_fault f (unless q a)) Was → IfSome (date_fault f (unless q b)) Was
      → IfSome (date_fault f (unless q (or_else a b))) Was
  either q None b h k = k
  either q (Some w) b h k = h

  date_fault_read : IfSome (date_fault f (date_way f)) Was
  date_fault_read =
      let y = years_read f.year f.century f.year_last_two in
      let iy = years_read f.iso_year f.iso_century f.iso_year_last_two in
      let q = lack f (is_some y) (is_some iy) in
      either q (calendar y f.month f.day) _ (calendar_was q y f.month f.day refl refl)
      (either q (ordinal y f.ordinal) _ (ordinal_was q y f.ordinal refl)
      (either q (iso_week iy f.iso_week f.weekday) _ (iso_was q iy f.iso_week f.weekday refl refl)
      (either q (sunday_week y f.sunday_week f.weekday) (monday_week y f.monday_week f.weekday)
      (sunday_was q y f.sunday_week f.weekday refl refl) (monday_was q y f.monday_week f.weekday refl refl))))

pub date_unread : (f : Fields) (d : Date) (p : DatePart) → date_is_read f p ≡ false → date_has f d p ≡ true
date_unread f d DatePart.Day e = count_unread f.day _ e
date_unread f d DatePart.Month e = count_unread f.month _ e
date_unread f d DatePart.Ordinal e = count_unread f.ordinal _ e
date_unread f d DatePart.Weekday e = count_unread f.weekday _ e
date_unread f d DatePart.IsoWeek e = count_unread f.iso_week _ e
date_unread f d DatePart.SundayWeek e = count_unread f.sunday_week _ e
date_unread f d DatePart.MondayWeek e = count_unread f.monday_week _ e
date_unread f d DatePart.YearLastTwo e = count_unread f.year_last_two _ e
date_unread f d DatePart.Century e = shown_unread f.century _ _ _ e
date_unread f d DatePart.Year e = shown_unread f.year _ _ _ e
date_unread f d DatePart.IsoYearLastTwo e = count_unread f.iso_year_last_two _ e
date_unread f d DatePart.IsoCentury e = shown_unread f.iso_century _ _ _ e
date_unread f d DatePart.IsoYear e = shown_unread f.iso_year _ _ _ e

pub date_names : (f : Fields) (e : ValueError) → IsDateByParts f (Err e) → NamesRead f e
date_names f (error.Missing (part.Date p)) is = date_missing f p is
date_names f (error.Missing (part.Time p)) is = absurd is
date_names f (error.Missing (part.Offset p)) is = absurd is
date_names f (error.Missing (part.Instant p)) is = absurd is
date_names f (error.Contradiction (part.Date p)) is =
    named_read (HasWay (date_way f)) (date_has f) date_parts (date_fault f (date_way f)) (date_is_read f) p is.2
    (λ d h e. date_unread f d p e) (date_fault_read f)
date_names f (error.Contradiction (part.Time p)) is = absurd is.2
date_names f (error.Contradiction (part.Offset p)) is = absurd is.2
date_names f (error.Contradiction (part.Instant p)) is = absurd is.2

-- Times of day.

-- the numbers of the time that agrees with what was read
record TimeOf (f : Fields) (t : Time) : Type 0 where
  minute : number f.minute ≡ t.minute
  second : number f.second ≡ t.second
  nanosecond : nanosecond_read f.subsecond ≡ t.nanosecond

time_from : (f : Fields) (t : Time) (h : ℕ) (a b : Bool)
    → HasClock (if a then Err TimePart.Minute else (if b then Err TimePart.Second else Ok (record {
      hour = h;
      minute = number f.minute;
      second = number f.second;
      nanosecond = nanosecond_read f.subsecond;
    }))) t → TimeOf f t
time_from f t h true b is = absurd is
time_from f t h false true is = absurd is
time_from f t h false false is = record { minute = is.1; second = is.2; nanosecond = is.3 }

time_at : (f : Fields) (t : Time) (o : Option ℕ) → HasClock (clock_at f o) t → TimeOf f t
time_at f t None is = absurd is
time_at f t (Some h) is =
    time_from f t h (is_left_out f.minute (has_second f)) (is_left_out f.second (is_some f.subsecond)) is

time_of : (f : Fields) (t : Time) → HasClock (clock_read f) t → TimeOf f t
time_of f t is = time_at f t (hour_read f.hour f.hour_12 f.is_afternoon) is

time_unread : (f : Fields) (t : Time) (p : TimePart) → HasClock (clock_read f) t → time_is_read f p ≡ false
    → time_has f t p ≡ true
time_unread f t TimePart.Hour h e = count_unread f.hour _ e
time_unread f t TimePart.Hour12 h e = count_unread f.hour_12 _ e
time_unread f t TimePart.Period h e = flag_unread f.is_afternoon _ e
time_unread f t TimePart.Minute h e = zero_unread f.minute _ e (time_of f t h).minute
time_unread f t TimePart.Second h e = zero_unread f.second _ e (time_of f t h).second
time_unread f t TimePart.Subsecond h e = fraction_unread f.subsecond _ e (time_of f t h).nanosecond

-- an hour after 23 was read as an hour of the 24-hour clock
hour_was : (h h12 : Option ℕ) (p : Option Bool) (n : ℕ) → hour_read h h12 p ≡ Some n → nat_lt 23 n ≡ true
    → is_some h ≡ true
hour_was (Some h) h12 p n e great = refl
hour_was None None p n e great = absurd cc
hour_was None (Some h) None n e great = absurd cc
hour_was None (Some h) (Some true) n e great =
    let is : h % 12 + 12 ≡ n = cc in absurd (omega (arith, ltb-true 23 n great, is))
hour_was None (Some h) (Some false) n e great =
    let is : h % 12 + 0 ≡ n = cc in absurd (omega (arith, ltb-true 23 n great, is))

abbrev TimeWas : Fields → Option TimePart → Type 0
TimeWas f o = IfSome o (λ q. time_is_read f q ≡ true)

clock_was : (f : Fields) (h : ℕ) → hour_read f.hour f.hour_12 f.is_afternoon ≡ Some h
    → TimeWas f (clock_fault (record {
      hour = h;
      minute = number f.minute;
      second = number f.second;
      nanosecond = nanosecond_read f.subsecond;
    }))
clock_was f h is =
    chosen (TimeWas f) (nat_lt 23 h) _ _ (λ g. hour_was f.hour f.hour_12 f.is_afternoon h is g)
    (λ g. chosen (TimeWas f) (nat_lt 59 (number f.minute)) _ _ (λ g. great_read f.minute 59 g)
    (λ g. chosen (TimeWas f) (nat_lt 59 (number f.second)) _ _ (λ g. great_read f.second 59 g)
    (λ g. chosen (TimeWas f) (nat_lt 999999999 (nanosecond_read f.subsecond)) _ _
    (λ g. fine_read f.subsecond 999999999 g) (λ g. tt))))

fault_from : (f : Fields) (h : ℕ) (a b : Bool) → hour_read f.hour f.hour_12 f.is_afternoon ≡ Some h
    → TimeWas f (time_fault (if a then Err TimePart.Minute else (if b then Err TimePart.Second else Ok (record {
      hour = h;
      minute = number f.minute;
      second = number f.second;
      nanosecond = nanosecond_read f.subsecond;
    }))))
fault_from f h true b is = tt
fault_from f h false true is = tt
fault_from f h false false is = clock_was f h is

fault_at_hour : (f : Fields) (o : Option ℕ) → hour_read f.hour f.hour_12 f.is_afternoon ≡ o
    → TimeWas f (time_fault (clock_at f o))
fault_at_hour f None is = tt
fault_at_hour f (Some h) is =
    fault_from f h (is_left_out f.minute (has_second f)) (is_left_out f.second (is_some f.subsecond)) is

time_fault_read : (f : Fields) → TimeWas f (time_fault (clock_read f))
time_fault_read f = fault_at_hour f (hour_read f.hour f.hour_12 f.is_afternoon) refl

-- what is left out wasn't read
left_out : (o : Option ℕ) (b : Bool) → is_left_out o b ≡ true → is_some o ≡ false
left_out None b e = refl
left_out (Some n) b e = absurd (clash false refl e)

no_hour : (f : Fields) (h h12 : Option ℕ) (p : Option Bool) → f.hour ≡ h → f.hour_12 ≡ h12 → f.is_afternoon ≡ p
    → hour_read h h12 p ≡ None → time_is_read f (lack_of_hour f) ≡ false
no_hour f (Some h) h12 p a b c e = absurd cc
no_hour f None (Some h) (Some t) a b c e = absurd cc
no_hour f None (Some h) None a b c e =
    subst (λ x. time_is_read f (if x then TimePart.Period
    else (if is_some f.is_afternoon then TimePart.Hour12 else TimePart.Hour)) ≡ false) (sym (ap is_some b)) (ap is_some c)
no_hour f None None p a b c e =
    subst (λ x. time_is_read f (if x then TimePart.Period
    else (if is_some f.is_afternoon then TimePart.Hour12 else TimePart.Hour)) ≡ false) (sym (ap is_some b))
    (chosen (λ q. time_is_read f q ≡ false) (is_some f.is_afternoon) _ _ (λ g. ap is_some b) (λ g. ap is_some a))

two_errors : {X : Type 0} (a b : Bool) (c : X) (p : TimePart)
    → (if a then Err TimePart.Minute else (if b then Err TimePart.Second else Ok c)) ≡ Err p
    → ((a ≡ true) × (TimePart.Minute ≡ p)) ⊎ ((b ≡ true) × (TimePart.Second ≡ p))
two_errors true b c p e = inl (refl, cc)
two_errors false true c p e = inr (refl, cc)
two_errors false false c p e = absurd cc

no_finer : (f : Fields) (p : TimePart)
    → ((is_left_out f.minute (has_second f) ≡ true) × (TimePart.Minute ≡ p))
    ⊎ ((is_left_out f.second (is_some f.subsecond) ≡ true) × (TimePart.Second ≡ p)) → time_is_read f p ≡ false
no_finer f p (inl is) = subst (λ q. time_is_read f q ≡ false) is.1 (left_out f.minute (has_second f) is.0)
no_finer f p (inr is) = subst (λ q. time_is_read f q ≡ false) is.1 (left_out f.second (is_some f.subsecond) is.0)

time_missing : (f : Fields) (o : Option ℕ) (p : TimePart) → hour_read f.hour f.hour_12 f.is_afternoon ≡ o
    → clock_at f o ≡ Err p → time_is_read f p ≡ false
time_missing f None p is e =
    let same : lack_of_hour f ≡ p = cc in
    subst (λ q. time_is_read f q ≡ false) same (no_hour f f.hour f.hour_12 f.is_afternoon refl refl refl is)
time_missing f (Some h) p is e =
    no_finer f p (two_errors (is_left_out f.minute (has_second f)) (is_left_out f.second (is_some f.subsecond)) _ p e)

pub time_names : (f : Fields) (e : ValueError) → IsTimeByParts f (Err e) → NamesRead f e
time_names f (error.Missing (part.Date p)) is = absurd is
time_names f (error.Missing (part.Time p)) is = time_missing f (hour_read f.hour f.hour_12 f.is_afternoon) p refl is
time_names f (error.Missing (part.Offset p)) is = absurd is
time_names f (error.Missing (part.Instant p)) is = absurd is
time_names f (error.Contradiction (part.Date p)) is = absurd is.2
time_names f (error.Contradiction (part.Time p)) is =
    named_read (HasClock (clock_read f)) (time_has f) time_parts (time_fault (clock_read f)) (time_is_read f) p is.2
    (λ t h e. time_unread f t p h e) (time_fault_read f)
time_names f (error.Contradiction (part.Offset p)) is = absurd is.2
time_names f (error.Contradiction (part.Instant p)) is = absurd is.2

-- Offsets.

-- the numbers of the offset that agrees with what was read
pub record OffsetOf (f : Fields) (o : UtcOffset) : Type 0 where
  pub minute : number f.offset_minute ≡ o.seconds / 60 % 60
  pub second : number f.offset_second ≡ o.seconds % 60

offset_from : (f : Fields) (o : UtcOffset) (h : Signed) (b : Bool)
    → HasShift (if b then Err OffsetPart.Minute else Ok (record {
      is_negative = h.is_negative;
      hour = h.magnitude;
      minute = number f.offset_minute;
      second = number f.offset_second;
    })) o → OffsetOf f o
offset_from f o h true is = absurd is
offset_from f o h false is = record { minute = is.1; second = is.2 }

pub offset_of : (f : Fields) (o : UtcOffset) (h : Option Signed) → HasShift (shift_at f h) o → OffsetOf f o
offset_of f o None is = absurd is
offset_of f o (Some h) is = offset_from f o h (is_left_out f.offset_minute (is_some f.offset_second)) is

one_error : {X : Type 0} (b : Bool) (c : X) (p : OffsetPart) → (if b then Err OffsetPart.Minute else Ok c) ≡ Err p
    → (b ≡ true) × (OffsetPart.Minute ≡ p)
one_error true c p e = (refl, cc)
one_error false c p e = absurd cc

pub offset_missing : (f : Fields) (o : Option Signed) (p : OffsetPart) → f.offset_hour ≡ o → shift_at f o ≡ Err p
    → offset_is_read f p ≡ false
offset_missing f None p is e =
    let same : OffsetPart.Hour ≡ p = cc in subst (λ q. offset_is_read f q ≡ false) same (ap is_some is)
offset_missing f (Some h) p is e =
    let one = one_error (is_left_out f.offset_minute (is_some f.offset_second)) _ p e in
    subst (λ q. offset_is_read f q ≡ false) one.1
    (left_out f.offset_minute (is_some f.offset_second) one.0)

pub offset_unread : (f : Fields) (o : UtcOffset) (p : OffsetPart) → OffsetOf f o → offset_is_read f p ≡ false
    → offset_has f o p ≡ true
offset_unread f o OffsetPart.Hour of e = shown_unread f.offset_hour _ _ _ e
offset_unread f o OffsetPart.Minute of e = zero_unread f.offset_minute _ e of.minute
offset_unread f o OffsetPart.Second of e = zero_unread f.offset_second _ e of.second

abbrev pub OffsetWas : Fields → Option OffsetPart → Type 0
OffsetWas f o = IfSome o (λ q. offset_is_read f q ≡ true)

pub shift_was : (f : Fields) (h : Signed) → f.offset_hour ≡ Some h → OffsetWas f (shift_fault (record {
  is_negative = h.is_negative;
  hour = h.magnitude;
  minute = number f.offset_minute;
  second = number f.offset_second;
}))
shift_was f h is =
    chosen (OffsetWas f) (nat_lt 25 h.magnitude) _ _ (λ g. ap is_some is)
    (λ g. chosen (OffsetWas f) (nat_lt 59 (number f.offset_minute)) _ _ (λ g. great_read f.offset_minute 59 g)
    (λ g. chosen (OffsetWas f) (nat_lt 59 (number f.offset_second)) _ _ (λ g. great_read f.offset_second 59 g)
    (λ g. tt)))

offset_fault_from : (f : Fields) (h : Signed) (b : Bool) → f.offset_hour ≡ Some h
    → OffsetWas f (offset_fault (if b then Err OffsetPart.Minute else Ok (record {
      is_negative = h.is_negative;
      hour = h.magnitude;
      minute = number f.offset_minute;
      second = number f.offset_second;
    })))
offset_fault_from f h true is = tt
offset_fault_from f h false is = shift_was f h is

offset_fault_at : (f : Fields) (h : Option Signed) → f.offset_hour ≡ h → OffsetWas f (offset_fault (shift_at f h))
offset_fault_at f None is = tt
offset_fault_at f (Some h) is = offset_fault_from f h (is_left_out f.offset_minute (is_some f.offset_second)) is

pub offset_names : (f : Fields) (e : ValueError) → IsOffsetOf f (Err e) → NamesRead f e
offset_names f (error.Missing (part.Date p)) is = absurd is
offset_names f (error.Missing (part.Time p)) is = absurd is
offset_names f (error.Missing (part.Offset p)) is = offset_missing f f.offset_hour p refl is
offset_names f (error.Missing (part.Instant p)) is = absurd is
offset_names f (error.Contradiction (part.Date p)) is = absurd is.2
offset_names f (error.Contradiction (part.Time p)) is = absurd is.2
offset_names f (error.Contradiction (part.Offset p)) is =
    named_read (HasShift (shift_read f)) (offset_has f) offset_parts (offset_fault (shift_read f)) (offset_is_read f) p
    is.2 (λ o h e. offset_unread f o p (offset_of f o f.offset_hour h) e) (offset_fault_at f f.offset_hour refl)
offset_names f (error.Contradiction (part.Instant p)) is = absurd is.2
