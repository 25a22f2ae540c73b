-- What is shown for a component is one of its texts.
use Rattle.std.proofs.Common.{ℕ, zero, suc, ◌≡◌, ◌∙◌, ◌+◌, ◌-◌, ◌*◌, ◌/◌, ◌%◌, ◌<◌, ◌≤◌, ◌⊎◌, inl, inr, Bool, true, false, ◌||◌, ◌==◌, nat_le, nat_lt, if◌then◌else◌, List, [], ◌∷◌, ◌++◌, length, get_or, codes, Option, Some, None, Result, Ok, Err, IfOk, refl, sym, ap, arith}
use Rattle.std.proofs.lemmas.Bool.{leb-true, ltb-true, ltb-false}
use Rattle.timefd_modifier.specs.declared.enums.Padding.{Padding}
use Rattle.timefd_lang_component.specs.declared.component.Component.{Component}
use Rattle.timefd_lang_component.specs.declared.component.Component.TheVariants.{Day, MonthShort, MonthLong, MonthNumerical, Ordinal, WeekdayShort, WeekdayLong, WeekdaySunday, WeekdayMonday, WeekNumberIso, WeekNumberSunday, WeekNumberMonday, CalendarYearFullExtendedRange, CalendarYearFullStandardRange, CalendarYearCenturyExtendedRange, CalendarYearCenturyStandardRange, IsoYearFullExtendedRange, IsoYearFullStandardRange, IsoYearCenturyExtendedRange, IsoYearCenturyStandardRange, CalendarYearLastTwo, IsoYearLastTwo, Hour12, Hour24, Minute, Second, OffsetMinute, OffsetSecond, Period, Subsecond, OffsetHour, UnixTimestampSecond, UnixTimestampMillisecond, UnixTimestampMicrosecond, UnixTimestampNanosecond, Ignore, End, Month, Weekday, WeekNumber, Hour, UnixTimestamp, Year}
use Rattle.timefd_lang_component.specs.Tree.{Text}
use Rattle.timefd_lang_component.specs.Texts.{filled, plus_where, IsNumber, IsSigned, IsExtended, IsStandard, IsWeekday, IsOneOf, periods, full, century, short_months, long_months, short_weekdays, long_weekdays}
use Rattle.timefd_date_moment.specs.declared.date.Date.{Date}
use Rattle.timefd_date_moment.specs.declared.time.Time.{Time}
use Rattle.timefd_date_moment.specs.declared.offset.UtcOffset.{UtcOffset}
use Rattle.timefd_date_moment.specs.declared.moment.Moment.{Moment}
use Rattle.timefd_date_moment.specs.declared.unix_time.UnixTime.{UnixTime}
use Rattle.timefd_date_moment.specs.Instants.{is_within}
use Rattle.timefd_date_moment.specs.Calendar.{days_in_month, is_leap, days_in_year}
use Rattle.timefd_date_moment.specs.Moments.{date_ordinal, days_from_monday, days_from_sunday, iso_years, iso_week, sunday_week, monday_week, magnitude, is_before_zero, hour_of_twelve, unix_time, thursday, utc_nanoseconds, unix_start}
use Rattle.timefd_date_moment.proofs.CalendarLemmas.{months_fit, days_before}
use Rattle.timefd_date_format.specs.declared.field.WrittenField.{WrittenField}
use Rattle.timefd_date_format.specs.declared.field.Lack.{Lack}
use Rattle.timefd_date_format.specs.Fields.{field, field_text, signed, sign_of, sign_text, year, from_one, period_text, on_date, on_time, on_offset, instant_field, stamp_field, whole_seconds}
use Rattle.timefd_date_format.specs.Laws.{IsTextOf, IsMinusZero}

-- What holds for each date holds for a moment that has one; so do times and offsets.

of_date : (P : WrittenField → Type 0) (o : Option Date) (g : Date → Result WrittenField Lack)
    → ((d : Date) → IfOk (g d) P) → IfOk (on_date o g) P
of_date P None g h = tt
of_date P (Some d) g h = h d

of_time : (P : WrittenField → Type 0) (o : Option Time) (g : Time → Result WrittenField Lack)
    → ((t : Time) → IfOk (g t) P) → IfOk (on_time o g) P
of_time P None g h = tt
of_time P (Some t) g h = h t

of_offset : (P : WrittenField → Type 0) (o : Option UtcOffset) (g : UtcOffset → Result WrittenField Lack)
    → ((z : UtcOffset) → IfOk (g z) P) → IfOk (on_offset o g) P
of_offset P None g h = tt
of_offset P (Some z) g h = h z

-- Numbers and names.

number : (low high width n : ℕ) (p : Padding) → low ≤ n → n ≤ high
    → IsNumber low high p width (filled p width n)
number low high width n p a b = (n, a, b, refl)

one_of : (names : List Text) (n : ℕ) → n < length names → IsOneOf names (get_or names n [])
one_of [] n h = absurd (omega (arith, h))
one_of (x ∷ xs) zero h = inl refl
one_of (x ∷ xs) (suc n) h = inr (one_of xs n (omega (arith, h)))

period : (upper noon : Bool) → IsOneOf (periods upper) (period_text upper noon)
period true true = inr (inl refl)
period true false = inl refl
period false true = inr (inl refl)
period false false = inl refl

weekday : (b : Bool) (n : ℕ) → n ≤ 6 → IsWeekday b (filled Padding.None 1 (from_one b n))
weekday true n h = (n + 1, omega arith, omega (arith, h), refl)
weekday false n h = (n, omega arith, h, refl)

month_bound : (a b c : Bool)
    → (if a then (if b then 29 else 28) else (if c then 30 else 31)) ≤ 31
month_bound true true c = omega arith
month_bound true false c = omega arith
month_bound false b true = omega arith
month_bound false b false = omega arith

in_month : (y m : ℕ) → days_in_month y m ≤ 31
in_month y m = month_bound (m == 2) (is_leap y) ((m == 4) || (m == 6) || (m == 9) || (m == 11))

year_bound : (b : Bool) → (365 ≤ (if b then 366 else 365)) × ((if b then 366 else 365) ≤ 366)
year_bound true = (omega arith, omega arith)
year_bound false = (omega arith, omega arith)

ordinal_first : (d : Date) → 1 ≤ date_ordinal d
ordinal_first d = omega (arith, d.exists)

ordinal_last : (d : Date) → date_ordinal d ≤ 366
ordinal_last d = months_fit d.years d.month d.day (d.exists.2) (d.exists.3) (d.exists.5)

iso_week_in : (d : Date) → (1 ≤ iso_week d) × (iso_week d ≤ 53)
iso_week_in d = by (nat_le (thursday d) 7) (nat_lt (days_in_year d.years + 7) (thursday d)) refl refl
  where
    by : (a b : Bool) → a ≡ nat_le (thursday d) 7 → b ≡ nat_lt (days_in_year d.years + 7) (thursday d)
        → (1 ≤ (if a then (thursday d + days_in_year (d.years - 1) - 8) / 7 + 1 else (if b then 1 else (thursday d - 8) / 7 + 1)))
        × ((if a then (thursday d + days_in_year (d.years - 1) - 8) / 7 + 1 else (if b then 1 else (thursday d - 8) / 7 + 1)) ≤ 53)
    by true b e f = (omega arith, omega (arith, leb-true _ _ (sym e), year_bound (is_leap (d.years - 1))))
    by false true e f = (omega arith, omega arith)
    by false false e f = (omega arith, omega (arith, ltb-false _ _ (sym f), year_bound (is_leap d.years)))

-- Years.

iso_years_in : (d : Date) → (1 ≤ iso_years d) × (iso_years d ≤ 1999999)
iso_years_in d = by (nat_le (thursday d) 7) (nat_lt (days_in_year d.years + 7) (thursday d)) refl refl
  where
    by : (a b : Bool) → a ≡ nat_le (thursday d) 7 → b ≡ nat_lt (days_in_year d.years + 7) (thursday d)
        → (1 ≤ (if a then d.years - 1 else (if b then d.years + 1 else d.years)))
        × ((if a then d.years - 1 else (if b then d.years + 1 else d.years)) ≤ 1999999)
    by true b e f = (
      omega (arith, leb-true _ _ (sym e), days_before d.years, d.exists, ordinal_first d, ordinal_last d),
      omega (arith, d.exists),
    )
    by false true e f = (
      omega arith,
      omega (arith, ltb-true _ _ (sym f), days_before d.years, d.exists, ordinal_first d, ordinal_last d, year_bound (is_leap d.years)),
    )
    by false false e f = (omega (arith, d.exists), omega (arith, d.exists))

magnitude_in : (y : ℕ) → 1 ≤ y → y ≤ 1999999 → magnitude y ≤ 999999
magnitude_in y a b = by (nat_lt y 1000000) refl
  where
    by : (t : Bool) → t ≡ nat_lt y 1000000 → (if t then 1000000 - y else y - 1000000) ≤ 999999
    by true e = omega (arith, ltb-true _ _ (sym e), a)
    by false e = omega (arith, b)

-- A sign in front of a number.
pub signed_text : (p : Padding) (w : ℕ) (mandatory negative : Bool) (v low high : ℕ) (Z : Text → Type 0)
    → (negative ≡ true → v ≤ low) → (negative ≡ false → v ≤ high)
    → (negative ≡ true → v ≡ 0 → Z (codes "-" ++ filled p w 0))
    → IsSigned low high (λ n. mandatory) (filled p w) (sign_text (sign_of negative mandatory) ++ filled p w v)
    ⊎ Z (sign_text (sign_of negative mandatory) ++ filled p w v)
signed_text p w mandatory true zero low high Z a b z = inr (z refl refl)
signed_text p w mandatory true (suc v) low high Z a b z = inl (inl (suc v, omega arith, a refl, refl))
signed_text p w true false v low high Z a b z = inl (inr (v, b refl, refl))
signed_text p w false false v low high Z a b z = inl (inr (v, b refl, refl))

-- A sign in front of a year, where the value that is shown is a part of the year.
year_signed : (mandatory negative : Bool) (n k : ℕ) (digits : Text) (has_plus : ℕ → Bool) (shown : ℕ → Text)
    → n ≤ k → (negative ≡ true → 1 ≤ n) → mandatory ≡ has_plus n → digits ≡ shown n
    → IsSigned k k has_plus shown (sign_text (sign_of negative mandatory) ++ digits)
year_signed m true n k digits has_plus shown a b e f =
    inl (n, b refl, a, ap (λ x. codes "-" ++ x) f)
year_signed true false n k digits has_plus shown a b e f =
    inr (n, a, (λ i. plus_where (e i) ++ f i))
year_signed false false n k digits has_plus shown a b e f =
    inr (n, a, (λ i. plus_where (e i) ++ f i))

before_zero : (y : ℕ) → is_before_zero y ≡ true → 1 ≤ magnitude y
before_zero y h = by (nat_lt y 1000000) refl h
  where
    by : (t : Bool) → t ≡ nat_lt y 1000000 → t ≡ true → 1 ≤ (if t then 1000000 - y else y - 1000000)
    by true e f = omega (arith, ltb-true _ _ (sym e))
    by false e f = absurd cc

year_text : (k w u : ℕ) (p : Padding) (mandatory : Bool) (y : ℕ) (Z : Text → Type 0) (has_plus : ℕ → Bool)
    (shown : ℕ → Text) → ((n : ℕ) → n ≤ k → mandatory || nat_le 10000 n ≡ has_plus n)
    → ((n : ℕ) → filled p w (n / u) ≡ shown n)
    → IfOk (year k w u p mandatory y) (λ f. IsSigned k k has_plus shown (field_text f) ⊎ Z (field_text f))
year_text k w u p mandatory y Z has_plus shown plus digits = by (nat_le (magnitude y) k) refl
  where
    by : (t : Bool) → t ≡ nat_le (magnitude y) k
        → IfOk (if t then Ok (signed (is_before_zero y) (mandatory || nat_le 10000 (magnitude y)) p w
        (magnitude y / u)) else Err Lack.YearTooLong) (λ f. IsSigned k k has_plus shown (field_text f) ⊎ Z (field_text f))
    by true e =
        let small : magnitude y ≤ k = leb-true _ _ (sym e) in
        inl (year_signed (mandatory || nat_le 10000 (magnitude y)) (is_before_zero y) (magnitude y) k
        (filled p w (magnitude y / u)) has_plus shown small (before_zero y) (plus (magnitude y) small)
        (digits (magnitude y)))
    by false e = tt

-- Years of at most four digits have no plus because of their size.
small_plus : (b : Bool) (n : ℕ) → n ≤ 9999 → b || nat_le 10000 n ≡ b
small_plus true n h = refl
small_plus false n h = by (nat_le 10000 n) refl
  where
    by : (t : Bool) → t ≡ nat_le 10000 n → t ≡ false
    by true e = absurd (omega (arith, leb-true _ _ (sym e), h))
    by false e = refl

whole : (p : Padding) (n : ℕ) → filled p 4 (n / 1) ≡ filled p 4 n
whole p n = ap (filled p 4) (omega arith)

extended : (w u : ℕ) (p : Padding) (b : Bool) (y : ℕ) (Z : Text → Type 0) (shown : ℕ → Text)
    → ((n : ℕ) → filled p w (n / u) ≡ shown n)
    → IfOk (year 999999 w u p b y) (λ f. IsExtended b shown (field_text f) ⊎ Z (field_text f))
extended w u p b y Z shown digits =
    year_text 999999 w u p b y Z (λ n. b || nat_le 10000 n) shown (λ n h. refl) digits

standard : (w u : ℕ) (p : Padding) (b : Bool) (y : ℕ) (Z : Text → Type 0) (shown : ℕ → Text)
    → ((n : ℕ) → filled p w (n / u) ≡ shown n)
    → IfOk (year 9999 w u p b y) (λ f. IsStandard b shown (field_text f) ⊎ Z (field_text f))
standard w u p b y Z shown digits =
    year_text 9999 w u p b y Z (λ n. b) shown (λ n h. small_plus b n h) digits

-- Instants.

pub of_instant : (P : WrittenField → Type 0) (u : UnixTime) (c : Component) → (is_within u ≡ true → P (stamp_field u c))
    → IfOk (instant_field u c) P
of_instant P u c h = by (is_within u) refl
  where
    by : (t : Bool) → t ≡ is_within u → IfOk (if t then Ok (stamp_field u c) else Err Lack.InstantOutOfRange) P
    by true e = h (sym e)
    by false e = tt

pub lowest : (u : UnixTime) → is_within u ≡ true → u.is_negative ≡ true
    → u.nanoseconds ≤ 31619087596800 * 1000000000
lowest u h negative =
    let e : nat_le u.nanoseconds (31619087596800 * 1000000000) ≡ true =
    sym (ap (λ b. if b then nat_le u.nanoseconds (31619087596800 * 1000000000) else nat_lt u.nanoseconds (31494784780800 * 1000000000)) negative) ∙ h in
    leb-true _ _ e

pub highest : (u : UnixTime) → is_within u ≡ true → u.is_negative ≡ false
    → u.nanoseconds < 31494784780800 * 1000000000
highest u h positive =
    let e : nat_lt u.nanoseconds (31494784780800 * 1000000000) ≡ true =
    sym (ap (λ b. if b then nat_le u.nanoseconds (31619087596800 * 1000000000) else nat_lt u.nanoseconds (31494784780800 * 1000000000)) positive) ∙ h in
    ltb-true _ _ e

some_before : (d : Date) (t : Time) (o : UtcOffset) → (unix_time d t o).is_negative ≡ true
    → 1 ≤ (unix_time d t o).nanoseconds
some_before d t o h =
    by (nat_lt (utc_nanoseconds d t o) (unix_start * 1000000000)) refl h
  where
    before : UnixTime
    before = record { is_negative = true; nanoseconds = unix_start * 1000000000 - utc_nanoseconds d t o }

    after : UnixTime
    after = record { is_negative = false; nanoseconds = utc_nanoseconds d t o - unix_start * 1000000000 }

    by : (b : Bool) → b ≡ nat_lt (utc_nanoseconds d t o) (unix_start * 1000000000)
        → (if b then before else after).is_negative ≡ true → 1 ≤ (if b then before else after).nanoseconds
    by true e f = omega (arith, ltb-true _ _ (sym e))
    by false e f = absurd cc

below_seconds : (u : UnixTime) → u.is_negative ≡ true → u.nanoseconds ≤ 31619087596800 * 1000000000
    → whole_seconds u ≤ 31619087596800
below_seconds u n h =
    let e : whole_seconds u ≡ (u.nanoseconds + 999999999) / 1000000000 =
    ap (λ b. if b then (u.nanoseconds + 999999999) / 1000000000 else u.nanoseconds / 1000000000) n in
    omega (arith, e, h)

above_seconds : (u : UnixTime) → u.is_negative ≡ false → u.nanoseconds < 31494784780800 * 1000000000
    → whole_seconds u ≤ 31494784780799
above_seconds u n h =
    let e : whole_seconds u ≡ u.nanoseconds / 1000000000 =
    ap (λ b. if b then (u.nanoseconds + 999999999) / 1000000000 else u.nanoseconds / 1000000000) n in
    omega (arith, e, h)

some_seconds : (u : UnixTime) → u.is_negative ≡ true → 1 ≤ u.nanoseconds → whole_seconds u ≡ 0 → ⊥
some_seconds u n h z =
    let e : whole_seconds u ≡ (u.nanoseconds + 999999999) / 1000000000 =
    ap (λ b. if b then (u.nanoseconds + 999999999) / 1000000000 else u.nanoseconds / 1000000000) n in
    omega (arith, e, h, z)

pub renders : (m : Moment) (c : Component) → IfOk (field m c) (λ f. IsTextOf c (field_text f))
renders m (Day p) = of_date _ m.date _ (λ d. inl (number 1 31 2 d.day p.padding (omega (arith, d.exists)) (omega (arith, d.exists, in_month d.years d.month))))
renders m (MonthShort p) = of_date _ m.date _ (λ d. inl (one_of short_months (d.month - 1) (omega (arith, d.exists))))
renders m (MonthLong p) = of_date _ m.date _ (λ d. inl (one_of long_months (d.month - 1) (omega (arith, d.exists))))
renders m (MonthNumerical p) = of_date _ m.date _ (λ d. inl (number 1 12 2 d.month p.padding (omega (arith, d.exists)) (omega (arith, d.exists))))
renders m (Ordinal p) = of_date _ m.date _ (λ d. inl (number 1 366 3 (date_ordinal d) p.padding (ordinal_first d) (ordinal_last d)))
renders m (WeekdayShort p) = of_date _ m.date _ (λ d. inl (one_of short_weekdays (days_from_monday d) (omega arith)))
renders m (WeekdayLong p) = of_date _ m.date _ (λ d. inl (one_of long_weekdays (days_from_monday d) (omega arith)))
renders m (WeekdaySunday p) = of_date _ m.date _ (λ d. inl (weekday p.one_indexed (days_from_sunday d) (omega arith)))
renders m (WeekdayMonday p) = of_date _ m.date _ (λ d. inl (weekday p.one_indexed (days_from_monday d) (omega arith)))
renders m (WeekNumberIso p) = of_date _ m.date _ (λ d. inl (number 1 53 2 (iso_week d) p.padding (iso_week_in d).0 (iso_week_in d).1))
renders m (WeekNumberSunday p) = of_date _ m.date _ (λ d. inl (number 0 53 2 (sunday_week d) p.padding (omega arith) (omega (arith, ordinal_last d))))
renders m (WeekNumberMonday p) = of_date _ m.date _ (λ d. inl (number 0 53 2 (monday_week d) p.padding (omega arith) (omega (arith, ordinal_last d))))
renders m (CalendarYearFullExtendedRange p) = of_date _ m.date _
    (λ d. extended 4 1 p.padding p.sign_is_mandatory d.years (IsMinusZero (CalendarYearFullExtendedRange p)) (full p.padding) (whole p.padding))
renders m (CalendarYearFullStandardRange p) = of_date _ m.date _
    (λ d. standard 4 1 p.padding p.sign_is_mandatory d.years (IsMinusZero (CalendarYearFullStandardRange p)) (full p.padding) (whole p.padding))
renders m (CalendarYearCenturyExtendedRange p) = of_date _ m.date _
    (λ d. extended 2 100 p.padding p.sign_is_mandatory d.years (IsMinusZero (CalendarYearCenturyExtendedRange p)) (century p.padding) (λ n. refl))
renders m (CalendarYearCenturyStandardRange p) = of_date _ m.date _
    (λ d. standard 2 100 p.padding p.sign_is_mandatory d.years (IsMinusZero (CalendarYearCenturyStandardRange p)) (century p.padding) (λ n. refl))
renders m (CalendarYearLastTwo p) = of_date _ m.date _ (λ d. inl (number 0 99 2 (magnitude d.years % 100) p.padding (omega arith) (omega arith)))
renders m (IsoYearFullExtendedRange p) = of_date _ m.date _
    (λ d. extended 4 1 p.padding p.sign_is_mandatory (iso_years d) (IsMinusZero (IsoYearFullExtendedRange p)) (full p.padding) (whole p.padding))
renders m (IsoYearFullStandardRange p) = of_date _ m.date _
    (λ d. standard 4 1 p.padding p.sign_is_mandatory (iso_years d) (IsMinusZero (IsoYearFullStandardRange p)) (full p.padding) (whole p.padding))
renders m (IsoYearCenturyExtendedRange p) = of_date _ m.date _
    (λ d. extended 2 100 p.padding p.sign_is_mandatory (iso_years d) (IsMinusZero (IsoYearCenturyExtendedRange p)) (century p.padding) (λ n. refl))
renders m (IsoYearCenturyStandardRange p) = of_date _ m.date _
    (λ d. standard 2 100 p.padding p.sign_is_mandatory (iso_years d) (IsMinusZero (IsoYearCenturyStandardRange p)) (century p.padding) (λ n. refl))
renders m (IsoYearLastTwo p) = of_date _ m.date _ (λ d. inl (number 0 99 2 (magnitude (iso_years d) % 100) p.padding (omega arith) (omega arith)))
renders m (Hour12 p) = of_time _ m.time _ (λ t. inl (number 1 12 2 (hour_of_twelve t.hour) p.padding (omega arith) (omega arith)))
renders m (Hour24 p) = of_time _ m.time _ (λ t. inl (number 0 23 2 t.hour p.padding (omega arith) t.hours))
renders m (Minute p) = of_time _ m.time _ (λ t. inl (number 0 59 2 t.minute p.padding (omega arith) t.minutes))
renders m (Second p) = of_time _ m.time _ (λ t. inl (number 0 59 2 t.second p.padding (omega arith) t.seconds))
renders m (Period p) = of_time _ m.time _ (λ t. inl (period p.is_uppercase (nat_le 12 t.hour)))
renders m (Subsecond p) = of_time _ m.time _ (λ t. inl (t.nanosecond, t.nanoseconds, refl))
renders m (OffsetHour p) = of_offset _ m.offset _
    (λ o. signed_text p.padding 2 p.sign_is_mandatory o.is_negative (o.seconds / 3600) 25 25 (IsMinusZero (OffsetHour p))
    (λ n. omega (arith, o.within)) (λ n. omega (arith, o.within)) (λ n z. refl))
renders m (OffsetMinute p) = of_offset _ m.offset _ (λ o. inl (number 0 59 2 (o.seconds / 60 % 60) p.padding (omega arith) (omega arith)))
renders m (OffsetSecond p) = of_offset _ m.offset _ (λ o. inl (number 0 59 2 (o.seconds % 60) p.padding (omega arith) (omega arith)))
renders m (Ignore p) = inl refl
renders m (End p) = inl refl
renders m (UnixTimestampSecond p) = of_date _ m.date _ (λ d. of_time _ m.time _ (λ t. of_offset _ m.offset _ (λ o.
    let u : UnixTime = unix_time d t o in
    of_instant (λ f. IsTextOf (UnixTimestampSecond p) (field_text f)) u (UnixTimestampSecond p) (λ shown.
    signed_text Padding.None 1 p.sign_is_mandatory u.is_negative (whole_seconds u) 31619087596800 31494784780799
    (IsMinusZero (UnixTimestampSecond p)) (λ n. below_seconds u n (lowest u shown n)) (λ n. above_seconds u n (highest u shown n))
    (λ n e. some_seconds u n (some_before d t o n) e)))))
renders m (UnixTimestampMillisecond p) = of_date _ m.date _ (λ d. of_time _ m.time _ (λ t. of_offset _ m.offset _ (λ o.
    let u : UnixTime = unix_time d t o in
    of_instant (λ f. IsTextOf (UnixTimestampMillisecond p) (field_text f)) u (UnixTimestampMillisecond p) (λ shown.
    signed_text Padding.None 1 p.sign_is_mandatory u.is_negative (u.nanoseconds / 1000000) 31619087596800000 31494784780799999
    (IsMinusZero (UnixTimestampMillisecond p)) (λ n. omega (arith, lowest u shown n)) (λ n. omega (arith, highest u shown n)) (λ n e. refl)))))
renders m (UnixTimestampMicrosecond p) = of_date _ m.date _ (λ d. of_time _ m.time _ (λ t. of_offset _ m.offset _ (λ o.
    let u : UnixTime = unix_time d t o in
    of_instant (λ f. IsTextOf (UnixTimestampMicrosecond p) (field_text f)) u (UnixTimestampMicrosecond p) (λ shown.
    signed_text Padding.None 1 p.sign_is_mandatory u.is_negative (u.nanoseconds / 1000) 31619087596800000000 31494784780799999999
    (IsMinusZero (UnixTimestampMicrosecond p)) (λ n. omega (arith, lowest u shown n)) (λ n. omega (arith, highest u shown n)) (λ n e. refl)))))
renders m (UnixTimestampNanosecond p) = of_date _ m.date _ (λ d. of_time _ m.time _ (λ t. of_offset _ m.offset _ (λ o.
    let u : UnixTime = unix_time d t o in
    of_instant (λ f. IsTextOf (UnixTimestampNanosecond p) (field_text f)) u (UnixTimestampNanosecond p) (λ shown.
    signed_text Padding.None 1 p.sign_is_mandatory u.is_negative u.nanoseconds 31619087596800000000000 31494784780799999999999
    (IsMinusZero (UnixTimestampNanosecond p)) (λ n. omega (arith, lowest u shown n)) (λ n. omega (arith, highest u shown n))
    (λ n e. absurd (omega (arith, some_before d t o n, e)))))))
renders m (Month p) = inl refl
renders m (Weekday p) = inl refl
renders m (WeekNumber p) = inl refl
renders m (Hour p) = inl refl
renders m (UnixTimestamp p) = inl refl
renders m (Year p) = inl refl
