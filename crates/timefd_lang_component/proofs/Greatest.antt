-- A tree reserves the length of its longest rendering.
use Rattle.std.proofs.Common.{sym, ℕ, ◌≡◌, ◌+◌, ◌-◌, ◌/◌, ◌^◌, ◌<◌, ◌≤◌, inl, inr, max, Bool, true, false, ◌==◌, nat_le, List, [], ◌∷◌, ◌++◌, length, length-append, take, replicate, cond, refl, ◌∙◌, ap, arith, codes, leb-true, leb-false}
use Rattle.std.specs.Fmt.{decimal, digits}
use Rattle.std.proofs.lemmas.Fmt.{length-decimal-le_wide}
use Rattle.std.proofs.lemmas.List.{length-replicate, length-take, length-take-le}
use Rattle.timefd_modifier.specs.declared.enums.Padding.{Padding}
use Rattle.timefd_modifier.specs.declared.enums.SubsecondDigits.{SubsecondDigits}
use Rattle.timefd_lang_component.specs.declared.component.Component.{Component}
use Rattle.timefd_lang_component.specs.declared.component.Component.TheVariants.{Day, MonthShort, MonthLong, MonthNumerical, Ordinal, WeekdayShort, WeekdayLong, WeekdaySunday, WeekdayMonday, WeekNumberIso, WeekNumberSunday, WeekNumberMonday, CalendarYearFullExtendedRange, CalendarYearFullStandardRange, CalendarYearCenturyExtendedRange, CalendarYearCenturyStandardRange, IsoYearFullExtendedRange, IsoYearFullStandardRange, IsoYearCenturyExtendedRange, IsoYearCenturyStandardRange, CalendarYearLastTwo, IsoYearLastTwo, Hour12, Hour24, Minute, Second, OffsetMinute, OffsetSecond, Period, Subsecond, OffsetHour, UnixTimestampSecond, UnixTimestampMillisecond, UnixTimestampMicrosecond, UnixTimestampNanosecond}
use Rattle.timefd_lang_component.specs.Tree.{Text, Tree, component, literal, compound, optional, first, Trees, no_trees, more_trees}
use Rattle.timefd_lang_component.specs.Reserved.{digits_shown, reserved, reserve, reserve_all, reserve_first}
use Rattle.timefd_lang_component.specs.Texts.{filled, IsNumber, plus_where, IsSigned, full, century, IsExtended, IsStandard, IsWeekday, before_trimmed, trimmed, at_least_one, subsecond, IsSubsecond, IsOneOf, short_months, long_months, short_weekdays, long_weekdays, periods, IsText, IsShown, Renders, RendersAll, RendersFirst}
use Rattle.timefd_lang_component.specs.Laws.{IsGreatest, ReservesGreatest}

-- Numbers.

decimal_6 : length (decimal 6) ≡ 1
unfolding digits
decimal_6 = refl

decimal_7 : length (decimal 7) ≡ 1
unfolding digits
decimal_7 = refl

decimal_12 : length (decimal 12) ≡ 2
unfolding digits
decimal_12 = refl

decimal_23 : length (decimal 23) ≡ 2
unfolding digits
decimal_23 = refl

decimal_25 : length (decimal 25) ≡ 2
unfolding digits
decimal_25 = refl

decimal_31 : length (decimal 31) ≡ 2
unfolding digits
decimal_31 = refl

decimal_53 : length (decimal 53) ≡ 2
unfolding digits
decimal_53 = refl

decimal_59 : length (decimal 59) ≡ 2
unfolding digits
decimal_59 = refl

decimal_99 : length (decimal 99) ≡ 2
unfolding digits
decimal_99 = refl

decimal_366 : length (decimal 366) ≡ 3
unfolding digits
decimal_366 = refl

decimal_9999 : length (decimal 9999) ≡ 4
unfolding digits
decimal_9999 = refl

decimal_999999 : length (decimal 999999) ≡ 6
unfolding digits
decimal_999999 = refl

decimal_999999999 : length (decimal 999999999) ≡ 9
unfolding digits
decimal_999999999 = refl

decimal_31619087596800 : length (decimal 31619087596800) ≡ 14
unfolding digits
decimal_31619087596800 = refl

decimal_31619087596800000 : length (decimal 31619087596800000) ≡ 17
unfolding digits
decimal_31619087596800000 = refl

decimal_31619087596800000000 : length (decimal 31619087596800000000) ≡ 20
unfolding digits
decimal_31619087596800000000 = refl

decimal_31619087596800000000000 : length (decimal 31619087596800000000000) ≡ 23
unfolding digits
decimal_31619087596800000000000 = refl

filled_by : (b width : ℕ) (bytes : Text) (k : ℕ) → width ≤ k → length bytes ≤ k
    → length (replicate (width - length bytes) b ++ bytes) ≤ k
filled_by b width bytes k w h = omega (
  arith,
  length-append (replicate (width - length bytes) b) bytes,
  length-replicate (width - length bytes) b,
)

filled_most : (p : Padding) (width k n : ℕ) → width ≤ k → 0 < k → n < 10 ^ k → n < 10 ^ 64
    → length (filled p width n) ≤ k
filled_most Padding.Zero width k n w z h l =
    filled_by 48 width (decimal n) k w (length-decimal-le_wide k n z h l)
filled_most Padding.Space width k n w z h l =
    filled_by 32 width (decimal n) k w (length-decimal-le_wide k n z h l)
filled_most Padding.None width k n w z h l = length-decimal-le_wide k n z h l

filled_with : (b width : ℕ) (bytes : Text) (k : ℕ) → width ≤ k → length bytes ≡ k
    → length (replicate (width - length bytes) b ++ bytes) ≡ k
filled_with b width bytes k w h = omega (
  arith,
  length-append (replicate (width - length bytes) b) bytes,
  length-replicate (width - length bytes) b,
)

filled_whole : (p : Padding) (width k n : ℕ) → width ≤ k → length (decimal n) ≡ k
    → length (filled p width n) ≡ k
filled_whole Padding.Zero width k n w h = filled_with 48 width (decimal n) k w h
filled_whole Padding.Space width k n w h = filled_with 32 width (decimal n) k w h
filled_whole Padding.None width k n w h = h

number_greatest : (lowest highest width : ℕ) (p : Padding) → lowest ≤ highest → 0 < width
    → highest < 10 ^ width → highest < 10 ^ 64 → length (decimal highest) ≡ width
    → IsGreatest (IsNumber lowest highest p width) width
number_greatest lowest highest width p some z h l e = record {
  reached = (
    filled p width highest,
    (highest, some, omega arith, refl),
    filled_whole p width width highest (omega arith) e,
  );
  most = λ text t. omega (
    arith,
    ap length t.3,
    filled_most p width width t.0 (omega arith) z
        (let b = t.2 in omega arith) (let b = t.2 in omega arith),
  );
}

signed_greatest : (lowest highest : ℕ) (has_plus : ℕ → Bool) (shown : ℕ → Text) (k : ℕ) → 1 ≤ lowest
    → highest ≤ lowest
    → ((n : ℕ) → n ≤ lowest → length (shown n) ≤ k) → length (shown lowest) ≡ k
    → IsGreatest (IsSigned lowest highest has_plus shown) (1 + k)
signed_greatest lowest highest has_plus shown k some less most e = record {
  reached = (
    codes "-" ++ shown lowest,
    inl (lowest, some, omega arith, refl),
    omega (arith, e, length-append (codes "-") (shown lowest)),
  );
  most = by;
}
  where
    plus_one : (b : Bool) → length (plus_where b) ≤ 1
    plus_one true = omega arith
    plus_one false = omega arith

    by : (text : Text) → IsSigned lowest highest has_plus shown text → length text ≤ 1 + k
    by text (inl t) = omega (
      arith,
      ap length t.3,
      length-append (codes "-") (shown t.0),
      most t.0 t.2,
    )
    by text (inr t) =
        omega (
          arith,
          ap length t.2,
          length-append (plus_where (has_plus t.0)) (shown t.0),
          plus_one (has_plus t.0),
          most t.0 (let b = t.1 in omega arith),
        )

full_extended : (p : Padding) (mandatory : Bool) → IsGreatest (IsExtended mandatory (full p)) 7
full_extended p mandatory =
    signed_greatest 999999 999999 _ (full p) 6 (omega arith) (omega arith)
    (λ n h. filled_most p 4 6 n (omega arith) (omega arith) (omega arith) (omega arith))
    (filled_whole p 4 6 999999 (omega arith) decimal_999999)

full_standard : (p : Padding) (mandatory : Bool) → IsGreatest (IsStandard mandatory (full p)) 5
full_standard p mandatory =
    signed_greatest 9999 9999 _ (full p) 4 (omega arith) (omega arith)
    (λ n h. filled_most p 4 4 n (omega arith) (omega arith) (omega arith) (omega arith))
    (filled_whole p 4 4 9999 (omega arith) decimal_9999)

century_extended : (p : Padding) (mandatory : Bool)
    → IsGreatest (IsExtended mandatory (century p)) 5
century_extended p mandatory =
    signed_greatest 999999 999999 _ (century p) 4 (omega arith) (omega arith)
    (λ n h. filled_most p 2 4 (n / 100) (omega arith) (omega arith) (omega arith) (omega arith))
    (filled_whole p 2 4 9999 (omega arith) decimal_9999)

century_standard : (p : Padding) (mandatory : Bool)
    → IsGreatest (IsStandard mandatory (century p)) 3
century_standard p mandatory =
    signed_greatest 9999 9999 _ (century p) 2 (omega arith) (omega arith)
    (λ n h. filled_most p 2 2 (n / 100) (omega arith) (omega arith) (omega arith) (omega arith))
    (filled_whole p 2 2 99 (omega arith) decimal_99)

weekday_greatest : (from_one : Bool) → IsGreatest (IsWeekday from_one) 1
weekday_greatest true = number_greatest 1 7 1 Padding.None (omega arith) (omega arith) (omega arith)
    (omega arith) (decimal_7)
weekday_greatest false = number_greatest 0 6 1 Padding.None (omega arith) (omega arith)
    (omega arith) (omega arith) (decimal_6)

-- Subseconds.

before_trimmed_most : (b : ℕ) (bytes : Text) → length (before_trimmed b bytes) ≤ 1 + length bytes
before_trimmed_most b [] = by (b == 48)
  where
    by : (t : Bool) → length (cond t [] (b ∷ [])) ≤ 1 + length {A = ℕ} []
    by true = omega arith
    by false = omega arith
before_trimmed_most b (c ∷ bytes) = omega arith

trimmed_most : (bytes : Text) → length (trimmed bytes) ≤ length bytes
trimmed_most [] = omega arith
trimmed_most (b ∷ bytes) = omega (arith, before_trimmed_most b (trimmed bytes), trimmed_most bytes)

at_least_most : (bytes : Text) (k : ℕ) → 1 ≤ k → length bytes ≤ k → length (at_least_one bytes) ≤ k
at_least_most [] k some h = omega arith
at_least_most (b ∷ bytes) k some h = h

nine_digits : (n : ℕ) → n ≤ 999999999 → length (filled Padding.Zero 9 n) ≤ 9
nine_digits n h = filled_most Padding.Zero 9 9 n (omega arith) (omega arith) (omega arith)
    (omega arith)

all_nines : length (filled Padding.Zero 9 999999999) ≡ 9
all_nines = filled_whole Padding.Zero 9 9 999999999 (omega arith) decimal_999999999

first_digits : (k : ℕ) → k ≤ 9 → IsGreatest (λ text. (n : ℕ) × (n ≤ 999999999)
    × (text ≡ take k (filled Padding.Zero 9 n))) k
first_digits k h = record {
  reached = (
    take k (filled Padding.Zero 9 999999999),
    (999999999, omega arith, refl),
    length-take-le k (filled Padding.Zero 9 999999999) (omega (arith, all_nines)),
  );
  most = λ text t. omega (arith, ap length t.2, length-take k (filled Padding.Zero 9 t.0));
}

all_shown : length (subsecond SubsecondDigits.OneOrMore 999999999) ≡ 9
unfolding digits
all_shown = refl

subsecond_greatest : (d : SubsecondDigits) → IsGreatest (IsSubsecond d) (digits_shown d)
subsecond_greatest SubsecondDigits.One = first_digits 1 (omega arith)
subsecond_greatest SubsecondDigits.Two = first_digits 2 (omega arith)
subsecond_greatest SubsecondDigits.Three = first_digits 3 (omega arith)
subsecond_greatest SubsecondDigits.Four = first_digits 4 (omega arith)
subsecond_greatest SubsecondDigits.Five = first_digits 5 (omega arith)
subsecond_greatest SubsecondDigits.Six = first_digits 6 (omega arith)
subsecond_greatest SubsecondDigits.Seven = first_digits 7 (omega arith)
subsecond_greatest SubsecondDigits.Eight = first_digits 8 (omega arith)
subsecond_greatest SubsecondDigits.Nine = first_digits 9 (omega arith)
subsecond_greatest SubsecondDigits.OneOrMore = record {
  reached = (
    subsecond SubsecondDigits.OneOrMore 999999999,
    (999999999, omega arith, refl),
    all_shown,
  );
  most = λ text t.
      omega (
        arith,
        ap length t.2,
        at_least_most (trimmed (filled Padding.Zero 9 t.0)) 9 (omega arith)
            (omega (arith, trimmed_most (filled Padding.Zero 9 t.0), nine_digits t.0 t.1)),
      );
}

-- Names.

abbrev longest : List Text → ℕ
longest [] = 0
longest (name ∷ names) = max (length name) (longest names)

name_most : (names : List Text) (text : Text) → IsOneOf names text → length text ≤ longest names
name_most [] text h = absurd h
name_most (name ∷ names) text (inl e) = omega (arith, ap length e)
name_most (name ∷ names) text (inr h) = omega (arith, name_most names text h)

name_reached : (name : Text) (names : List Text) → (text : Text) × IsOneOf (name ∷ names) text
    × (length text ≡ longest (name ∷ names))
name_reached name [] = (name, inl refl, omega arith)
name_reached name (other ∷ names) =
    by (name_reached other names) (nat_le (longest (other ∷ names)) (length name)) refl
  where
    by : (text : Text) × IsOneOf (other ∷ names) text × (length text ≡ longest (other ∷ names))
        → (t : Bool) → nat_le (longest (other ∷ names)) (length name) ≡ t
        → (text : Text) × IsOneOf (name ∷ other ∷ names) text
        × (length text ≡ longest (name ∷ other ∷ names))
    by r true h = (
      name,
      inl refl,
      (let l : longest (other ∷ names) ≤ length name =
          leb-true (longest (other ∷ names)) (length name) h in omega arith),
    )
    by r false h = (
      r.0,
      inr r.1,
      (let l : length name < longest (other ∷ names) =
          leb-false (longest (other ∷ names)) (length name) h in omega (arith, r.2)),
    )

one_of : (names : List Text) (k : ℕ) → 0 < length names → longest names ≡ k
    → IsGreatest (IsOneOf names) k
one_of [] k some e = absurd (omega arith)
one_of (name ∷ names) k some e = record {
  reached = (let r = name_reached name names in (r.0, r.1, r.2 ∙ e));
  most = λ text h. omega (arith, e, name_most (name ∷ names) text h);
}

period_greatest : (upper : Bool) → IsGreatest (IsOneOf (periods upper)) 2
period_greatest true = one_of (periods true) 2 (omega arith) refl
period_greatest false = one_of (periods false) 2 (omega arith) refl

-- Components.

component_greatest : (c : Component) → IsGreatest (IsText c) (reserved c)
component_greatest (Day m) = number_greatest 1 31 2 m.padding (omega arith) (omega arith)
    (omega arith) (omega arith) (decimal_31)
component_greatest (MonthShort m) = one_of short_months 3 (omega arith) refl
component_greatest (MonthLong m) = one_of long_months 9 (omega arith) refl
component_greatest (MonthNumerical m) =
    number_greatest 1 12 2 m.padding (omega arith) (omega arith) (omega arith) (omega arith)
    (decimal_12)
component_greatest (Ordinal m) = number_greatest 1 366 3 m.padding (omega arith) (omega arith)
    (omega arith) (omega arith) (decimal_366)
component_greatest (WeekdayShort m) = one_of short_weekdays 3 (omega arith) refl
component_greatest (WeekdayLong m) = one_of long_weekdays 9 (omega arith) refl
component_greatest (WeekdaySunday m) = weekday_greatest m.one_indexed
component_greatest (WeekdayMonday m) = weekday_greatest m.one_indexed
component_greatest (WeekNumberIso m) =
    number_greatest 1 53 2 m.padding (omega arith) (omega arith) (omega arith) (omega arith)
    (decimal_53)
component_greatest (WeekNumberSunday m) =
    number_greatest 0 53 2 m.padding (omega arith) (omega arith) (omega arith) (omega arith)
    (decimal_53)
component_greatest (WeekNumberMonday m) =
    number_greatest 0 53 2 m.padding (omega arith) (omega arith) (omega arith) (omega arith)
    (decimal_53)
component_greatest (CalendarYearFullExtendedRange m) = full_extended m.padding _
component_greatest (CalendarYearFullStandardRange m) = full_standard m.padding _
component_greatest (CalendarYearCenturyExtendedRange m) = century_extended m.padding _
component_greatest (CalendarYearCenturyStandardRange m) = century_standard m.padding _
component_greatest (IsoYearFullExtendedRange m) = full_extended m.padding _
component_greatest (IsoYearFullStandardRange m) = full_standard m.padding _
component_greatest (IsoYearCenturyExtendedRange m) = century_extended m.padding _
component_greatest (IsoYearCenturyStandardRange m) = century_standard m.padding _
component_greatest (CalendarYearLastTwo m) =
    number_greatest 0 99 2 m.padding (omega arith) (omega arith) (omega arith) (omega arith)
    (decimal_99)
component_greatest (IsoYearLastTwo m) =
    number_greatest 0 99 2 m.padding (omega arith) (omega arith) (omega arith) (omega arith)
    (decimal_99)
component_greatest (Hour12 m) = number_greatest 1 12 2 m.padding (omega arith) (omega arith)
    (omega arith) (omega arith) (decimal_12)
component_greatest (Hour24 m) = number_greatest 0 23 2 m.padding (omega arith) (omega arith)
    (omega arith) (omega arith) (decimal_23)
component_greatest (Minute m) = number_greatest 0 59 2 m.padding (omega arith) (omega arith)
    (omega arith) (omega arith) (decimal_59)
component_greatest (Second m) = number_greatest 0 59 2 m.padding (omega arith) (omega arith)
    (omega arith) (omega arith) (decimal_59)
component_greatest (OffsetMinute m) =
    number_greatest 0 59 2 m.padding (omega arith) (omega arith) (omega arith) (omega arith)
    (decimal_59)
component_greatest (OffsetSecond m) =
    number_greatest 0 59 2 m.padding (omega arith) (omega arith) (omega arith) (omega arith)
    (decimal_59)
component_greatest (Period m) = period_greatest m.is_uppercase
component_greatest (Subsecond m) = subsecond_greatest m.digits
component_greatest (OffsetHour m) =
    signed_greatest 25 25 _ (filled m.padding 2) 2 (omega arith) (omega arith)
    (λ n h. filled_most m.padding 2 2 n (omega arith) (omega arith) (omega arith) (omega arith))
    (filled_whole m.padding 2 2 25 (omega arith) decimal_25)
component_greatest (UnixTimestampSecond m) =
    signed_greatest 31619087596800 31494784780799 _ decimal 14 (omega arith) (omega arith)
    (λ n h. length-decimal-le_wide 14 n (omega arith) (omega arith) (omega arith))
    decimal_31619087596800
component_greatest (UnixTimestampMillisecond m) =
    signed_greatest 31619087596800000 31494784780799999 _ decimal 17 (omega arith) (omega arith)
    (λ n h. length-decimal-le_wide 17 n (omega arith) (omega arith) (omega arith))
    decimal_31619087596800000
component_greatest (UnixTimestampMicrosecond m) =
    signed_greatest 31619087596800000000 31494784780799999999 _ decimal 20 (omega arith)
    (omega arith) (λ n h. length-decimal-le_wide 20 n (omega arith) (omega arith) (omega arith))
    decimal_31619087596800000000
component_greatest (UnixTimestampNanosecond m) =
    signed_greatest 31619087596800000000000 31494784780799999999999 _ decimal 23 (omega arith)
    (omega arith) (λ n h. length-decimal-le_wide 23 n (omega arith) (omega arith) (omega arith))
    decimal_31619087596800000000000
component_greatest _ = record {
  reached = ([], refl, refl);
  most =
      λ text h. omega (arith, ap length h);
}

-- Trees.

empty_greatest : IsGreatest (λ text. text ≡ []) 0
empty_greatest = record { reached = ([], refl, refl); most = λ text h. omega (arith, ap length h) }

optional_greatest : (format : Bool) (Has : Text → Type 0) (k : ℕ) → IsGreatest Has k
    → IsGreatest (λ text. IsShown format (Has text) text) (cond format k 0)
optional_greatest true Has k h = h
optional_greatest false Has k h = empty_greatest

mutual
  greatest : (t : Tree) → IsGreatest (Renders t) (reserve t)
  greatest (component c) = component_greatest c
  greatest (literal bytes) = record {
    reached = (bytes, refl, refl);
    most =
        λ text h. omega (arith, ap length h);
  }
  greatest (compound ts) = all_greatest ts
  greatest (optional format t) = optional_greatest format (Renders t) (reserve t) (greatest t)
  greatest (first ts) = first_greatest ts

  all_greatest : (ts : Trees) → IsGreatest (RendersAll ts) (reserve_all ts)
  all_greatest no_trees = empty_greatest
  all_greatest (more_trees t ts) =
      let g = greatest t in
      let r = all_greatest ts in
      let a = g.reached in
      let b = r.reached in
      record {
        reached = (
          a.0 ++ b.0,
          (a.0, b.0, a.1, b.1, refl),
          omega (arith, length-append a.0 b.0, a.2, b.2),
        );
        most = λ text h. omega (
          arith,
          ap length h.4,
          length-append h.0 h.1,
          g.most h.0 h.2,
          r.most h.1 h.3,
        );
      }

  first_greatest : (ts : Trees) → IsGreatest (RendersFirst ts) (reserve_first ts)
  first_greatest no_trees = empty_greatest
  first_greatest (more_trees t ts) = greatest t

pub reserves_greatest_law : ReservesGreatest
reserves_greatest_law t = greatest t

pub reached_at : (t : Tree) (n : ℕ) → n ≡ reserve t → (text : Text) × Renders t text
    × (length text ≡ n)
reached_at t n e = let r = (reserves_greatest_law t).reached in (r.0, r.1, r.2 ∙ sym e)

pub longest_at : (t : Tree) (n : ℕ) → n ≡ reserve t → (text : Text) → Renders t text
    → length text ≤ n
longest_at t n e text shown = rw e ((reserves_greatest_law t).most text shown)
