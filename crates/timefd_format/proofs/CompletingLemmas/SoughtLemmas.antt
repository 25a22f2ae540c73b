-- A date that is sought: the parts that it lacks are filled, one number after another.
use Rattle.std.proofs.Common.{ℕ, ◌≡◌, ◌∙◌, ◌+◌, ◌<◌, ◌≤◌, ◌==◌, ◌&&◌, ◌||◌, Bool, true, false, nat_lt, Option, Some, None, Ok, Err, if◌then◌else◌, refl, sym, ap, subst, arith}
use Rattle.std.specs.Prelude.{is_some}
use Rattle.std.proofs.lemmas.Bool.{eq-eqb, eqb-true, ltb-true, ltb-false}
use Rattle.timefd_date_moment.specs.declared.date.Date.{Date}
use Rattle.timefd_date_moment.specs.Calendar.{days_in_month, is_leap}
use Rattle.timefd_date_moment.specs.Moments.{is_before_zero, magnitude}
use Rattle.timefd_format.specs.Completing.Filled.{filled, read_or, signed_year}
use Rattle.timefd_format.specs.Completing.Sought.{IsSought, NoneAgrees, NoneBelow}
use Rattle.timefd_format.specs.Completing.Years.{IsOfYears, fits}
use Rattle.timefd_date_moment.specs.declared.fields.fields.Fields.{Fields}
use Rattle.timefd_date_moment.specs.declared.fields.fields.Signed.{Signed}
use Rattle.timefd_date_moment.specs.Fields.Readings.{same}
use Rattle.timefd_date_moment.specs.declared.reading.error.ValueError.{ValueError}
use Rattle.timefd_date_moment.specs.declared.reading.error.ValueError.TheVariants as error
use Rattle.timefd_date_moment.specs.declared.reading.part.DatePart.{DatePart}
use Rattle.timefd_date_moment.specs.declared.reading.part.Part.{Part}
use Rattle.timefd_date_moment.specs.declared.reading.part.Part.TheVariants as part
use Rattle.timefd_date_moment.specs.Reading.Dates.{IsDateByParts, IsMissing}
use Rattle.timefd_date_moment.specs.Reading.Shown.{DateAgrees, is_count, is_year}
use Rattle.timefd_date_moment.specs.Reading.Times.{number}
use Rattle.timefd_date_moment.specs.Reading.Values.{IsDateOf}
use Rattle.timefd_date_moment.specs.Reading.Ways.{calendar, iso_week, lack, monday_week, or_else, ordinal, sunday_week, unless}
use Rattle.timefd_date_moment.specs.Reading.Years.{years_read}
use Rattle.timefd_date_moment.proofs.ReadingLemmas.ShownLemmas.{clash}

-- what agrees with more, agrees with less

year_less : (o : Option Signed) (s : Signed) (n : ℕ) → is_year (read_or o s) n ≡ true → is_year o n ≡ true
year_less None s n e = refl
year_less (Some t) s n e = e

count_less : (o : Option ℕ) (k n : ℕ) → is_count (read_or o k) n ≡ true → is_count o n ≡ true
count_less None k n e = refl
count_less (Some x) k n e = e

less : (f : Fields) (y m n : ℕ) (d : Date) → DateAgrees (filled f y m n) d → DateAgrees f d
less f y m n d a DatePart.Day = count_less f.day n d.day (a DatePart.Day)
less f y m n d a DatePart.Month = count_less f.month m d.month (a DatePart.Month)
less f y m n d a DatePart.Ordinal = a DatePart.Ordinal
less f y m n d a DatePart.Weekday = a DatePart.Weekday
less f y m n d a DatePart.IsoWeek = a DatePart.IsoWeek
less f y m n d a DatePart.SundayWeek = a DatePart.SundayWeek
less f y m n d a DatePart.MondayWeek = a DatePart.MondayWeek
less f y m n d a DatePart.YearLastTwo = a DatePart.YearLastTwo
less f y m n d a DatePart.Century = a DatePart.Century
less f y m n d a DatePart.Year = year_less f.year (signed_year y) d.years (a DatePart.Year)
less f y m n d a DatePart.IsoYearLastTwo = a DatePart.IsoYearLastTwo
less f y m n d a DatePart.IsoCentury = a DatePart.IsoCentury
less f y m n d a DatePart.IsoYear = a DatePart.IsoYear

-- what agrees with less, agrees with its own numbers too

all_of : (a b : Bool) → a ≡ true → b ≡ true → (a && b) ≡ true
all_of true b e g = g
all_of false b e g = absurd cc

or_true : (a b : Bool) → b ≡ true → (a || b) ≡ true
or_true true b e = refl
or_true false b e = e

same_of : (a b : Bool) → a ≡ b → same a b ≡ true
same_of true true e = refl
same_of true false e = absurd cc
same_of false true e = absurd cc
same_of false false e = refl

year_more : (o : Option Signed) (n y : ℕ) → n ≡ y → is_year o n ≡ true → is_year (read_or o (signed_year y)) n ≡ true
year_more (Some s) n y h e = e
year_more None n y h e =
    all_of (magnitude y == magnitude n) ((magnitude n == 0) || same (is_before_zero y) (is_before_zero n))
    (eq-eqb (magnitude y) (magnitude n) (ap (λ (x : ℕ). magnitude x) (sym h)))
    (or_true (magnitude n == 0) (same (is_before_zero y) (is_before_zero n))
    (same_of (is_before_zero y) (is_before_zero n) (ap (λ (x : ℕ). is_before_zero x) (sym h))))

count_more : (o : Option ℕ) (n k : ℕ) → n ≡ k → is_count o n ≡ true → is_count (read_or o k) n ≡ true
count_more (Some x) n k h e = e
count_more None n k h e = eq-eqb k n (sym h)

more : (f : Fields) (y m n : ℕ) (d : Date) → d.years ≡ y → d.month ≡ m → d.day ≡ n → DateAgrees f d
    → DateAgrees (filled f y m n) d
more f y m n d h i j a DatePart.Day = count_more f.day d.day n j (a DatePart.Day)
more f y m n d h i j a DatePart.Month = count_more f.month d.month m i (a DatePart.Month)
more f y m n d h i j a DatePart.Ordinal = a DatePart.Ordinal
more f y m n d h i j a DatePart.Weekday = a DatePart.Weekday
more f y m n d h i j a DatePart.IsoWeek = a DatePart.IsoWeek
more f y m n d h i j a DatePart.SundayWeek = a DatePart.SundayWeek
more f y m n d h i j a DatePart.MondayWeek = a DatePart.MondayWeek
more f y m n d h i j a DatePart.YearLastTwo = a DatePart.YearLastTwo
more f y m n d h i j a DatePart.Century = a DatePart.Century
more f y m n d h i j a DatePart.Year = year_more f.year d.years y h (a DatePart.Year)
more f y m n d h i j a DatePart.IsoYearLastTwo = a DatePart.IsoYearLastTwo
more f y m n d h i j a DatePart.IsoCentury = a DatePart.IsoCentury
more f y m n d h i j a DatePart.IsoYear = a DatePart.IsoYear

-- with a year, a month and a day nothing is missing
whole : (year : Option Signed) (s : Signed) (century : Option Signed) (two month day : Option ℕ) (m n : ℕ)
    (q : DatePart) (rest : _) (p : DatePart)
    → unless q (or_else (calendar (years_read (read_or year s) century two) (read_or month m) (read_or day n)) rest)
    ≡ Err p → ⊥
whole None s century two None None m n q rest p e = absurd cc
whole None s century two None (Some k) m n q rest p e = absurd cc
whole None s century two (Some k) None m n q rest p e = absurd cc
whole None s century two (Some k) (Some l) m n q rest p e = absurd cc
whole (Some y) s century two None None m n q rest p e = absurd cc
whole (Some y) s century two None (Some k) m n q rest p e = absurd cc
whole (Some y) s century two (Some k) None m n q rest p e = absurd cc
whole (Some y) s century two (Some k) (Some l) m n q rest p e = absurd cc

missing : (f : Fields) (y m n : ℕ) (p : Part) → IsMissing (filled f y m n) p → ⊥
missing f y m n (part.Date p) is =
    let g = filled f y m n in
    let years = years_read g.year g.century g.year_last_two in
    let iso_years = years_read g.iso_year g.iso_century g.iso_year_last_two in
    whole f.year (signed_year y) f.century f.year_last_two f.month f.day m n
    (lack g (is_some years) (is_some iso_years))
    (or_else (ordinal years g.ordinal) (or_else (iso_week iso_years g.iso_week g.weekday)
    (or_else (sunday_week years g.sunday_week g.weekday) (monday_week years g.monday_week g.weekday)))) p is
missing f y m n (part.Time p) is = is
missing f y m n (part.Offset p) is = is
missing f y m n (part.Instant p) is = is

not_on : (f : Fields) (y m n : ℕ) (e : ValueError) → IsDateByParts (filled f y m n) (Err e)
    → NoneAgrees (λ d. (d.years ≡ y) × (d.month ≡ m) × (d.day ≡ n)) f
not_on f y m n (error.Missing p) is d at a = missing f y m n p is
not_on f y m n (error.Contradiction p) is d at a = is.1 d (more f y m n d at.0 at.1 at.2 a)

pub on_day : (f g : Fields) (y m n : ℕ) (d : Date) → g ≡ filled f y m n → IsDateOf g (Ok d) → DateAgrees f d
on_day f g y m n d made is =
    let parts : IsDateByParts (filled f y m n) (Ok d) = subst (λ (x : Fields). IsDateOf x (Ok d)) made is in
    less f y m n d parts.0

pub no_day : (f g : Fields) (y m n : ℕ) (e : ValueError) → g ≡ filled f y m n → IsDateOf g (Err e)
    → NoneAgrees (λ d. (d.years ≡ y) × (d.month ≡ m) × (d.day ≡ n)) f
no_day f g y m n e made is = not_on f y m n e (subst (λ (x : Fields). IsDateOf x (Err e)) made is)

-- a number that was read is that of each date that agrees
read_is : (o : Option ℕ) (m n : ℕ) → o ≡ Some m → is_count o n ≡ true → n ≡ m
read_is None m n e h = absurd cc
read_is (Some k) m n e h = sym (eqb-true k n h) ∙ ap (λ (x : Option ℕ). number x) e

pub in_month_read : (f : Fields) (y m : ℕ) (r : Option Date) → f.month ≡ Some m
    → IsSought (λ d. (d.years ≡ y) × (d.month ≡ m)) f r → IsSought (λ d. d.years ≡ y) f r
in_month_read f y m (Some d) e s = s
in_month_read f y m None e s = λ d is a. s d (is, read_is f.month m d.month e (a DatePart.Month)) a

pub on_day_read : (f : Fields) (y m n : ℕ) (r : Option Date) → f.day ≡ Some n
    → IsSought (λ d. (d.years ≡ y) × (d.month ≡ m) × (d.day ≡ n)) f r
    → IsSought (λ d. (d.years ≡ y) × (d.month ≡ m)) f r
on_day_read f y m n (Some d) e s = s
on_day_read f y m n None e s = λ d is a. s d (is.0, is.1, read_is f.day n d.day e (a DatePart.Day)) a

pub misfit : (f : Fields) (y : ℕ) → fits f y ≡ false → NoneAgrees (λ d. d.years ≡ y) f
misfit f y other d is a =
    let fit : fits f d.years ≡ true =
    all_of _ _ (a DatePart.Year) (all_of _ _ (a DatePart.Century) (a DatePart.YearLastTwo)) in
    clash (fits f y) other (subst (λ (n : ℕ). fits f n ≡ true) is fit)

-- One more number: no date below it agrees, and none that has it.
next : (number : Date → ℕ) (Is At : Date → Type 0) (f : Fields) (n k : ℕ) → k ≡ n + 1
    → ((d : Date) → Is d → number d ≡ n → At d) → NoneBelow number Is f n → NoneAgrees At f → NoneBelow number Is f k
next number Is At f n k up has below none d is under a = by (nat_lt (number d) n) refl
  where
    by : (b : Bool) → b ≡ nat_lt (number d) n → ⊥
    by true e = below d is (ltb-true _ _ (sym e)) a
    by false e = none d (has d is (omega (arith, ltb-false _ _ (sym e), under, up))) a

pub no_days_yet : (f : Fields) (y m : ℕ) → NoneBelow (λ d. d.day) (λ d. (d.years ≡ y) × (d.month ≡ m)) f 1
no_days_yet f y m d is under a = omega (arith, under, d.exists.4)

pub next_day : (f : Fields) (y m n k : ℕ) → k ≡ n + 1
    → NoneBelow (λ d. d.day) (λ d. (d.years ≡ y) × (d.month ≡ m)) f n
    → NoneAgrees (λ d. (d.years ≡ y) × (d.month ≡ m) × (d.day ≡ n)) f
    → NoneBelow (λ d. d.day) (λ d. (d.years ≡ y) × (d.month ≡ m)) f k
next_day f y m n k up below none =
    next (λ d. d.day) (λ d. (d.years ≡ y) × (d.month ≡ m)) (λ d. (d.years ≡ y) × (d.month ≡ m) × (d.day ≡ n)) f n k up
    (λ d is at. (is.0, is.1, at)) below none

days_at_most : (a b c : Bool) → (if a then (if b then 29 else 28) else (if c then 30 else 31)) ≤ 31
days_at_most true true c = omega arith
days_at_most true false c = omega arith
days_at_most false b true = omega arith
days_at_most false b false = omega arith

pub all_days : (f : Fields) (y m n : ℕ) → 31 < n
    → NoneBelow (λ d. d.day) (λ d. (d.years ≡ y) × (d.month ≡ m)) f n
    → NoneAgrees (λ d. (d.years ≡ y) × (d.month ≡ m)) f
all_days f y m n end below d is a =
    let most : days_in_month d.years d.month ≤ 31 =
    days_at_most (d.month == 2) (is_leap d.years)
    ((d.month == 4) || (d.month == 6) || (d.month == 9) || (d.month == 11)) in
    below d is (omega (arith, end, most, d.exists.5)) a

pub no_months_yet : (f : Fields) (y : ℕ) → NoneBelow (λ d. d.month) (λ d. d.years ≡ y) f 1
no_months_yet f y d is under a = omega (arith, under, d.exists.2)

pub next_month : (f : Fields) (y n k : ℕ) → k ≡ n + 1 → NoneBelow (λ d. d.month) (λ d. d.years ≡ y) f n
    → NoneAgrees (λ d. (d.years ≡ y) × (d.month ≡ n)) f → NoneBelow (λ d. d.month) (λ d. d.years ≡ y) f k
next_month f y n k up below none =
    next (λ d. d.month) (λ d. d.years ≡ y) (λ d. (d.years ≡ y) × (d.month ≡ n)) f n k up
    (λ d is at. (is, at)) below none

pub all_months : (f : Fields) (y n : ℕ) → 12 < n → NoneBelow (λ d. d.month) (λ d. d.years ≡ y) f n
    → NoneAgrees (λ d. d.years ≡ y) f
all_months f y n end below d is a = below d is (omega (arith, end, d.exists.3)) a

pub no_years_yet : (f : Fields) (first : ℕ) → NoneBelow (λ d. d.years) (λ d. first ≤ d.years) f first
no_years_yet f first d is under a = omega (arith, under, is)

pub next_year : (f : Fields) (first n k : ℕ) → k ≡ n + 1 → NoneBelow (λ d. d.years) (λ d. first ≤ d.years) f n
    → NoneAgrees (λ d. d.years ≡ n) f → NoneBelow (λ d. d.years) (λ d. first ≤ d.years) f k
next_year f first n k up below none =
    next (λ d. d.years) (λ d. first ≤ d.years) (λ d. d.years ≡ n) f n k up (λ d is at. at) below none

pub all_years : (f : Fields) (first n : ℕ) → first + 402 ≤ n → NoneBelow (λ d. d.years) (λ d. first ≤ d.years) f n
    → NoneAgrees (IsOfYears first) f
all_years f first n end below d is a = below d is.0 (omega (arith, end, is.1)) a
