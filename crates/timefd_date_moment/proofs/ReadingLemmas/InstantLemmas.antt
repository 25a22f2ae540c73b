-- The instant that was read from a timestamp is that of the moment.
use Rattle.std.proofs.Common.{ℕ, ◌≡◌, ◌∙◌, ◌+◌, ◌-◌, ◌*◌, ◌/◌, ◌%◌, ◌≤◌, ◌⊎◌, inl, inr, ◌==◌, ◌||◌, Bool, true, false, nat_le, nat_lt, Option, Some, None, if◌then◌else◌, refl, sym, ap, subst, arith}
use Rattle.std.proofs.Math.Nat.{min-eq_left}
use Rattle.std.proofs.lemmas.Bool.{eqb-true, leb-true, ltb-true, ltb-false}
use Rattle.timefd_date_moment.specs.declared.fields.fields.Fields.{Fields}
use Rattle.timefd_date_moment.specs.declared.fields.fields.Fraction.{Fraction}
use Rattle.timefd_date_moment.specs.declared.fields.fields.Signed.{Signed}
use Rattle.timefd_date_moment.specs.declared.date.Date.{Date}
use Rattle.timefd_date_moment.specs.declared.time.Time.{Time}
use Rattle.timefd_date_moment.specs.declared.offset.UtcOffset.{UtcOffset}
use Rattle.timefd_date_moment.specs.declared.unix_time.UnixTime.{UnixTime}
use Rattle.timefd_date_moment.specs.Moments.{unix_start, unix_time, utc_nanoseconds, utc_seconds}
use Rattle.timefd_date_moment.proofs.LawLemmas.{instant_kept}
use Rattle.timefd_date_moment.specs.Fields.Readings.{same}
use Rattle.timefd_date_moment.specs.declared.reading.part.InstantPart.{InstantPart}
use Rattle.timefd_date_moment.specs.declared.reading.part.Part.TheVariants as part
use Rattle.timefd_date_moment.specs.Reading.Locals.{Shows}
use Rattle.timefd_date_moment.specs.Reading.Shown.{is_shown}
use Rattle.timefd_date_moment.specs.Reading.StampLaws.{HasDigitsBy, HasRest, IsRead}
use Rattle.timefd_date_moment.specs.Reading.Stamped.{whole_seconds}
use Rattle.timefd_date_moment.specs.Reading.Stamps.{after_second, by_nanosecond, by_second, by_unit, fraction_read, in_second, instant_by, instant_read, is_finer, stamp_magnitude, within_second}
use Rattle.timefd_date_moment.specs.Reading.Times.{nanosecond_read}
use Rattle.timefd_date_moment.proofs.ReadingLemmas.OffsetLemmas.{sign_is}
use Rattle.timefd_date_moment.proofs.ReadingLemmas.YearLemmas.{both}

-- `n` is the fraction of the second, in nanoseconds, at `m` nanoseconds before or after 1970
abbrev IsFraction : Bool → ℕ → ℕ → Type 0
IsFraction true m n = (m + n) % 1000000000 ≡ 0
IsFraction false m n = m % 1000000000 ≡ n

abbrev IsSign : Bool → Bool → ℕ → Type 0
IsSign a b m = (m ≡ 0) ⊎ (a ≡ b)

-- On plain numbers.

seconds_are : (m n fraction : ℕ) (a b : Bool) → IsFraction b m n → n ≤ 999999999 → fraction ≡ n
    → IsSign a b m
    → after_second a (if b then (m + 999999999) / 1000000000 else m / 1000000000) fraction ≡ m
seconds_are m n fraction true true is small e s = omega (arith, is, small, e)
seconds_are m n fraction true false is small e (inl z) = omega (arith, is, small, e, z)
seconds_are m n fraction true false is small e (inr s) = absurd cc
seconds_are m n fraction false true is small e (inl z) = omega (arith, is, small, e, z)
seconds_are m n fraction false true is small e (inr s) = absurd cc
seconds_are m n fraction false false is small e s = omega (arith, is, small, e)

within_is : (m n w fraction : ℕ) (a b : Bool) → IsFraction b m n → n ≤ 999999999 → fraction ≡ n
    → IsSign a b m → w / 1000000000 ≡ m / 1000000000 → within_second a w fraction ≡ m
within_is m n w fraction true true is small e s h = omega (arith, is, small, e, h)
within_is m n w fraction true false is small e (inl z) h = omega (arith, is, small, e, z, h)
within_is m n w fraction true false is small e (inr s) h = absurd cc
within_is m n w fraction false true is small e (inl z) h = omega (arith, is, small, e, z, h)
within_is m n w fraction false true is small e (inr s) h = absurd cc
within_is m n w fraction false false is small e s h = omega (arith, is, small, e, h)

thousands : (m : ℕ) → m / 1000 * 1000 / 1000000000 ≡ m / 1000000000
thousands m = omega arith

millions : (m : ℕ) → m / 1000000 * 1000000 / 1000000000 ≡ m / 1000000000
millions m = omega arith

whole_thousands : (b : Bool) (m n : ℕ) → IsFraction b m n → n % 1000 ≡ 0 → m / 1000 * 1000 ≡ m
whole_thousands true m n is z = omega (arith, is, z)
whole_thousands false m n is z = omega (arith, is, z)

whole_millions : (b : Bool) (m n : ℕ) → IsFraction b m n → n % 1000000 ≡ 0 → m / 1000000 * 1000000 ≡ m
whole_millions true m n is z = omega (arith, is, z)
whole_millions false m n is z = omega (arith, is, z)

-- what was read from a timestamp agrees with the instant
shown_is : (s : Signed) (b : Bool) (m part : ℕ) → is_shown (Some s) b m part ≡ true
    → (s.magnitude ≡ part) × IsSign s.is_negative b m
shown_is s b m part e =
    let h = both (s.magnitude == part) ((m == 0) || same s.is_negative b) e in
    (eqb-true s.magnitude part h.0, sign_is s.is_negative b m h.1)

-- The instant that was read is this one. Zero may have either sign.
abbrev IsInstant : UnixTime → UnixTime → Type 0
IsInstant v u = (v.nanoseconds ≡ u.nanoseconds) × IsSign v.is_negative u.is_negative u.nanoseconds

not_capped : (s : Signed) (n : ℕ) → s.magnitude ≡ n → n ≤ 100000000000000000000000 → stamp_magnitude s ≡ n
not_capped s n e small = min-eq_left (subst (λ (k : ℕ). k ≤ 100000000000000000000000) (sym e) small) ∙ e

fraction_is : (fraction : Option Fraction) (n : ℕ) → nanosecond_read fraction ≡ n → n ≤ 999999999
    → fraction_read fraction ≡ n
fraction_is fraction n e small =
    min-eq_left (subst (λ (k : ℕ). k ≤ 1000000000) (sym e) (omega (arith, small))) ∙ e

abbrev small_number : ℕ → Type 0
small_number m = m ≤ 100000000000000000000000

by_nanosecond_is : (s : Signed) (u : UnixTime) → small_number u.nanoseconds
    → is_shown (Some s) u.is_negative u.nanoseconds u.nanoseconds ≡ true → IsInstant (by_nanosecond s) u
by_nanosecond_is s u small e =
    let h = shown_is s u.is_negative u.nanoseconds u.nanoseconds e in
    (not_capped s u.nanoseconds h.0 small, h.1)

in_second_is : (finer : Bool) (fraction : Option Fraction) (a b : Bool) (m n w unit : ℕ)
    → HasRest finer fraction unit n → IsFraction b m n → n ≤ 999999999 → IsSign a b m
    → w / 1000000000 ≡ m / 1000000000 → (n % unit ≡ 0 → w ≡ m)
    → in_second finer a w (fraction_read fraction) ≡ m
in_second_is true fraction a b m n w unit rest is small sign h whole =
    within_is m n w (fraction_read fraction) a b is small (fraction_is fraction n rest small) sign h
in_second_is false fraction a b m n w unit rest is small sign h whole = whole rest

part_small : (m k : ℕ) → small_number m → (k ≤ m) → small_number k
part_small m k h e = omega (arith, h, e)

by_microsecond_is : (s : Signed) (u : UnixTime) (fraction : Option Fraction) (n : ℕ)
    → small_number u.nanoseconds → IsFraction u.is_negative u.nanoseconds n → n ≤ 999999999
    → HasRest (is_finer fraction 6) fraction 1000 n
    → is_shown (Some s) u.is_negative u.nanoseconds (u.nanoseconds / 1000) ≡ true
    → IsInstant (by_unit fraction 6 1000 s) u
by_microsecond_is s u fraction n small is few rest e =
    let m = u.nanoseconds in
    let h = shown_is s u.is_negative m (m / 1000) e in
    let whole : stamp_magnitude s * 1000 ≡ m / 1000 * 1000 =
    ap (λ (k : ℕ). k * 1000) (not_capped s (m / 1000) h.0 (omega (arith, small))) in (
      in_second_is (is_finer fraction 6) fraction s.is_negative u.is_negative m n (stamp_magnitude s * 1000)
          1000 rest is few h.1 (ap (λ (k : ℕ). k / 1000000000) whole ∙ thousands m)
          (λ z. whole ∙ whole_thousands u.is_negative m n is z),
      h.1,
    )

by_millisecond_is : (s : Signed) (u : UnixTime) (fraction : Option Fraction) (n : ℕ)
    → small_number u.nanoseconds → IsFraction u.is_negative u.nanoseconds n → n ≤ 999999999
    → HasRest (is_finer fraction 3) fraction 1000000 n
    → is_shown (Some s) u.is_negative u.nanoseconds (u.nanoseconds / 1000000) ≡ true
    → IsInstant (by_unit fraction 3 1000000 s) u
by_millisecond_is s u fraction n small is few rest e =
    let m = u.nanoseconds in
    let h = shown_is s u.is_negative m (m / 1000000) e in
    let whole : stamp_magnitude s * 1000000 ≡ m / 1000000 * 1000000 =
    ap (λ (k : ℕ). k * 1000000) (not_capped s (m / 1000000) h.0 (omega (arith, small))) in (
      in_second_is (is_finer fraction 3) fraction s.is_negative u.is_negative m n
          (stamp_magnitude s * 1000000) 1000000 rest is few h.1
          (ap (λ (k : ℕ). k / 1000000000) whole ∙ millions m)
          (λ z. whole ∙ whole_millions u.is_negative m n is z),
      h.1,
    )

whole_small : (b : Bool) (m : ℕ) → small_number m
    → small_number (if b then (m + 999999999) / 1000000000 else m / 1000000000)
whole_small true m h = omega (arith, h)
whole_small false m h = omega (arith, h)

by_second_is : (s : Signed) (u : UnixTime) (fraction : Option Fraction) (n : ℕ)
    → small_number u.nanoseconds → IsFraction u.is_negative u.nanoseconds n → n ≤ 999999999
    → nanosecond_read fraction ≡ n
    → is_shown (Some s) u.is_negative u.nanoseconds (whole_seconds u) ≡ true
    → IsInstant (by_second fraction s) u
by_second_is s u fraction n small is few rest e =
    let h = shown_is s u.is_negative u.nanoseconds (whole_seconds u) e in
    let whole = not_capped s (whole_seconds u) h.0 (whole_small u.is_negative u.nanoseconds small) in (
      ap (λ (k : ℕ). after_second s.is_negative k (fraction_read fraction)) whole
          ∙ seconds_are u.nanoseconds n (fraction_read fraction) s.is_negative u.is_negative is few
          (fraction_is fraction n rest few) h.1,
      h.1,
    )

abbrev value_of : UnixTime → Option UnixTime → UnixTime
value_of u (Some v) = v
value_of u None = u

instant_by_is : (fraction : Option Fraction) (ns us ms s : Option Signed) (u v : UnixTime) (n : ℕ)
    → small_number u.nanoseconds → IsFraction u.is_negative u.nanoseconds n → n ≤ 999999999
    → HasDigitsBy fraction ns us ms n
    → is_shown ns u.is_negative u.nanoseconds u.nanoseconds ≡ true
    → is_shown us u.is_negative u.nanoseconds (u.nanoseconds / 1000) ≡ true
    → is_shown ms u.is_negative u.nanoseconds (u.nanoseconds / 1000000) ≡ true
    → is_shown s u.is_negative u.nanoseconds (whole_seconds u) ≡ true
    → instant_by fraction ns us ms s ≡ Some v → IsInstant v u
instant_by_is fraction (Some k) us ms s u v n small is few rest a b c d e =
    subst (λ (x : UnixTime). IsInstant x u) (ap (value_of u) e) (by_nanosecond_is k u small a)
instant_by_is fraction None (Some k) ms s u v n small is few rest a b c d e =
    subst (λ (x : UnixTime). IsInstant x u) (ap (value_of u) e)
    (by_microsecond_is k u fraction n small is few rest b)
instant_by_is fraction None None (Some k) s u v n small is few rest a b c d e =
    subst (λ (x : UnixTime). IsInstant x u) (ap (value_of u) e)
    (by_millisecond_is k u fraction n small is few rest c)
instant_by_is fraction None None None (Some k) u v n small is few rest a b c d e =
    subst (λ (x : UnixTime). IsInstant x u) (ap (value_of u) e)
    (by_second_is k u fraction n small is few rest d)
instant_by_is fraction None None None None u v n small is few rest a b c d e = absurd cc

-- the instant of a moment

fraction_by : (t : Bool) (s n : ℕ) → t ≡ nat_lt (s * 1000000000 + n) (unix_start * 1000000000)
    → n ≤ 999999999
    → IsFraction t (if t then unix_start * 1000000000 - (s * 1000000000 + n)
    else s * 1000000000 + n - unix_start * 1000000000) n
fraction_by true s n e few = omega (arith, ltb-true _ _ (sym e), few)
fraction_by false s n e few = omega (arith, ltb-false _ _ (sym e), few)

has_fraction : (d : Date) (t : Time) (o : UtcOffset)
    → IsFraction (unix_time d t o).is_negative (unix_time d t o).nanoseconds t.nanosecond
has_fraction d t o = by (nat_lt (utc_nanoseconds d t o) (unix_start * 1000000000)) refl
  where
    by : (b : Bool) → b ≡ nat_lt (utc_nanoseconds d t o) (unix_start * 1000000000)
        → IsFraction (unix_time d t o).is_negative (unix_time d t o).nanoseconds t.nanosecond
    by true e = rw (sym e) (fraction_by true (utc_seconds d t o) t.nanosecond e t.nanoseconds)
    by false e = rw (sym e) (fraction_by false (utc_seconds d t o) t.nanosecond e t.nanoseconds)

within_small : (b : Bool) (m : ℕ)
    → (if b then nat_le m (31619087596800 * 1000000000) else nat_lt m (31494784780800 * 1000000000)) ≡ true
    → small_number m
within_small true m e = omega (arith, leb-true _ _ e)
within_small false m e = omega (arith, ltb-true _ _ e)

counted_alike : (a b : Bool) (m n : ℕ) → m ≡ n → IsSign a b n
    → (if a then unix_start * 1000000000 - m else unix_start * 1000000000 + m)
    ≡ (if b then unix_start * 1000000000 - n else unix_start * 1000000000 + n)
counted_alike true true m n e s = omega (arith, e)
counted_alike true false m n e (inl z) = omega (arith, e, z)
counted_alike true false m n e (inr s) = absurd cc
counted_alike false true m n e (inl z) = omega (arith, e, z)
counted_alike false true m n e (inr s) = absurd cc
counted_alike false false m n e s = omega (arith, e)

-- equal instants are within the same years
within_by : (a b : Bool) (m n : ℕ) → m ≡ n → IsSign a b n
    → (if b then nat_le n (31619087596800 * 1000000000) else nat_lt n (31494784780800 * 1000000000)) ≡ true
    → (if a then nat_le m (31619087596800 * 1000000000) else nat_lt m (31494784780800 * 1000000000)) ≡ true
within_by true true m n e s h = ap (λ (k : ℕ). nat_le k (31619087596800 * 1000000000)) e ∙ h
within_by true false m n e (inl z) h = ap (λ (k : ℕ). nat_le k (31619087596800 * 1000000000)) (e ∙ z)
within_by true false m n e (inr s) h = absurd cc
within_by false true m n e (inl z) h = ap (λ (k : ℕ). nat_lt k (31494784780800 * 1000000000)) (e ∙ z)
within_by false true m n e (inr s) h = absurd cc
within_by false false m n e s h = ap (λ (k : ℕ). nat_lt k (31494784780800 * 1000000000)) e ∙ h

-- The clock shows the moment at the instant that was read.
pub shown_back : (f : Fields) (v : UnixTime) (d : Date) (t : Time) (o : UtcOffset)
    → instant_read f ≡ Some v → IsRead f d t o → Shows v o d t
shown_back f v d t o e is =
    let u = unix_time d t o in
    let same : IsInstant v u =
    instant_by_is f.subsecond f.unix_nanosecond f.unix_microsecond f.unix_millisecond f.unix_second u v
    t.nanosecond (within_small u.is_negative u.nanoseconds is.2) (has_fraction d t o) t.nanoseconds is.3
    (is.0 (part.Instant InstantPart.Nanosecond)) (is.0 (part.Instant InstantPart.Microsecond))
    (is.0 (part.Instant InstantPart.Millisecond)) (is.0 (part.Instant InstantPart.Second)) e in (
      sym (counted_alike v.is_negative u.is_negative v.nanoseconds u.nanoseconds same.0 same.1
          ∙ instant_kept d t o),
      within_by v.is_negative u.is_negative v.nanoseconds u.nanoseconds same.0 same.1 is.2,
    )
