-- What is written is UTF-8.
use Rattle.std.proofs.Common.{ℕ, zero, suc, ◌≡◌, ◌-◌, ◌/◌, ◌^◌, ◌<◌, ◌≤◌, ◌==◌, ◌&&◌, inl, inr, Bool, true, false, nat_lt, if◌then◌else◌, List, [], ◌∷◌, ◌++◌, length, replicate, codes, Result, Ok, Err, IfOk, refl, sym, subst, arith}
use Rattle.std.specs.Fmt.{decimal}
use Rattle.std.specs.Str.{IsAscii, IsUtf8}
use Rattle.std.proofs.lemmas.Bool.{ltb-true}
use Rattle.std.proofs.lemmas.Fmt.{IsAscii-decimal_wide}
use Rattle.std.proofs.lemmas.Str.{IsAscii-append, IsAscii-take, IsUtf8-append, IsUtf8-from_ascii, IsUtf8-nil}
use Rattle.std.proofs.lemmas.Str.Ascii.{IsAscii-nil}
use Rattle.timefd_modifier.specs.declared.enums.Padding.{Padding}
use Rattle.timefd_modifier.specs.declared.enums.SubsecondDigits.{SubsecondDigits}
use Rattle.timefd_lang_component.specs.declared.component.Component.{Component}
use Rattle.timefd_lang_component.specs.declared.component.Component.TheVariants.{Day, MonthShort, MonthLong, MonthNumerical, Ordinal, WeekdayShort, WeekdayLong, WeekdaySunday, WeekdayMonday, WeekNumberIso, WeekNumberSunday, WeekNumberMonday, CalendarYearFullExtendedRange, CalendarYearFullStandardRange, CalendarYearCenturyExtendedRange, CalendarYearCenturyStandardRange, IsoYearFullExtendedRange, IsoYearFullStandardRange, IsoYearCenturyExtendedRange, IsoYearCenturyStandardRange, CalendarYearLastTwo, IsoYearLastTwo, Hour12, Hour24, Minute, Second, OffsetMinute, OffsetSecond, Period, Subsecond, OffsetHour, UnixTimestampSecond, UnixTimestampMillisecond, UnixTimestampMicrosecond, UnixTimestampNanosecond, Ignore, End, Month, Weekday, WeekNumber, Hour, UnixTimestamp, Year}
use Rattle.timefd_lang_component.specs.Modern.{modern}
use Rattle.timefd_lang_component.specs.Texts.{filled, before_trimmed, trimmed, at_least_one, subsecond, plus_where, periods, IsNumber, IsSigned, IsOneOf, IsWeekday, IsExtended, IsStandard, IsText, full, century, short_months, long_months, short_weekdays, long_weekdays}
use Rattle.timefd_lang_component.specs.Tree.{Text, Tree, component, literal, compound, optional, first, Trees, no_trees, more_trees}
use Rattle.timefd_date_moment.specs.declared.moment.Moment.{Moment}
use Rattle.timefd_date_format.specs.declared.field.WrittenField.{WrittenField}
use Rattle.timefd_date_format.specs.declared.field.Lack.{Lack}
use Rattle.timefd_date_format.specs.declared.field.Unshown.{Unshown}
use Rattle.timefd_date_format.specs.Fields.{field, field_text}
use Rattle.timefd_date_format.specs.Laws.{IsTextOf, IsMinusZero}
use Rattle.timefd_date_format.specs.Literals.{HasUtf8Literals, HaveUtf8Literals}
use Rattle.timefd_date_format.specs.Written.{followed, shown, text_of, written, written_all, written_first}
use Rattle.timefd_date_format.proofs.TextLemmas.{renders}

cons_ascii : (b : ℕ) (xs : Text) → b < 128 → IsAscii xs → IsAscii (b ∷ xs)
cons_ascii b xs h g zero = h
cons_ascii b xs h g (suc i) = g i

-- Constant texts.
abbrev is_ascii : Text → Bool
is_ascii [] = true
is_ascii (b ∷ xs) = nat_lt b 128 && is_ascii xs

both : (a b : Bool) → a && b ≡ true → (a ≡ true) × (b ≡ true)
both true b h = (refl, h)
both false b h = absurd cc

constant_ascii : (xs : Text) → is_ascii xs ≡ true → IsAscii xs
constant_ascii [] h = IsAscii-nil
constant_ascii (b ∷ xs) h =
    cons_ascii b xs (ltb-true b 128 (both (nat_lt b 128) (is_ascii xs) h).0)
    (constant_ascii xs (both (nat_lt b 128) (is_ascii xs) h).1)

constant : (xs : Text) → is_ascii xs ≡ true → IsUtf8 xs
constant xs h = IsUtf8-from_ascii xs (constant_ascii xs h)

fill_ascii : (n b : ℕ) → b < 128 → IsAscii (replicate n b)
fill_ascii zero b h = IsAscii-nil
fill_ascii (suc n) b h = cons_ascii b (replicate n b) h (fill_ascii n b h)

filled_ascii : (p : Padding) (w n : ℕ) → n < 10 ^ 64 → IsAscii (filled p w n)
filled_ascii Padding.Zero w n h =
    IsAscii-append (replicate (w - length (decimal n)) 48) (decimal n)
    (fill_ascii (w - length (decimal n)) 48 (omega arith)) (IsAscii-decimal_wide n h)
filled_ascii Padding.Space w n h =
    IsAscii-append (replicate (w - length (decimal n)) 32) (decimal n)
    (fill_ascii (w - length (decimal n)) 32 (omega arith)) (IsAscii-decimal_wide n h)
filled_ascii Padding.None w n h = IsAscii-decimal_wide n h

filled_utf8 : (p : Padding) (w n : ℕ) → n < 10 ^ 64 → IsUtf8 (filled p w n)
filled_utf8 p w n h = IsUtf8-from_ascii (filled p w n) (filled_ascii p w n h)

number : (low high w : ℕ) (p : Padding) (text : Text) → high < 10 ^ 64 → IsNumber low high p w text
    → IsUtf8 text
number low high w p text small is =
    subst IsUtf8 (sym is.3) (filled_utf8 p w is.0 (omega (arith, is.2, small)))

weekday : (b : Bool) (text : Text) → IsWeekday b text → IsUtf8 text
weekday true text is = number 1 7 1 Padding.None text (omega arith) is
weekday false text is = number 0 6 1 Padding.None text (omega arith) is

minus : (text : Text) → IsUtf8 text → IsUtf8 (codes "-" ++ text)
minus text h = IsUtf8-append (codes "-") text (constant (codes "-") refl) h

plus : (b : Bool) (text : Text) → IsUtf8 text → IsUtf8 (plus_where b ++ text)
plus true text h = IsUtf8-append (codes "+") text (constant (codes "+") refl) h
plus false text h = h

signed : (low high : ℕ) (has_plus : ℕ → Bool) (digits : ℕ → Text) (text : Text) → low < 10 ^ 64
    → high < 10 ^ 64 → ((n : ℕ) → n < 10 ^ 64 → IsUtf8 (digits n))
    → IsSigned low high has_plus digits text → IsUtf8 text
signed low high has_plus digits text a b each (inl is) =
    subst IsUtf8 (sym is.3) (minus (digits is.0) (each is.0 (omega (arith, is.2, a))))
signed low high has_plus digits text a b each (inr is) =
    subst IsUtf8 (sym is.2) (plus (has_plus is.0) (digits is.0) (each is.0 (omega (arith, is.1, b))))

abbrev are_utf8 : List Text → Bool
are_utf8 [] = true
are_utf8 (name ∷ names) = is_ascii name && are_utf8 names

name_of : (names : List Text) (text : Text) → are_utf8 names ≡ true → IsOneOf names text → IsUtf8 text
name_of [] text all is = absurd is
name_of (name ∷ names) text all (inl is) =
    subst IsUtf8 (sym is) (constant name (both (is_ascii name) (are_utf8 names) all).0)
name_of (name ∷ names) text all (inr is) =
    name_of names text (both (is_ascii name) (are_utf8 names) all).1 is

period : (b : Bool) (text : Text) → IsOneOf (periods b) text → IsUtf8 text
period true text is = name_of (periods true) text refl is
period false text is = name_of (periods false) text refl is

before_ascii : (b : ℕ) (xs : Text) → b < 128 → IsAscii xs → IsAscii (before_trimmed b xs)
before_ascii b [] h g = elim (b == 48) as (λ t. IsAscii (if t then [] else b ∷ [])) [
  | true ↦ IsAscii-nil
  | false ↦ cons_ascii b [] h IsAscii-nil
]
before_ascii b (x ∷ xs) h g = cons_ascii b (x ∷ xs) h g

trimmed_ascii : (xs : Text) → IsAscii xs → IsAscii (trimmed xs)
trimmed_ascii [] h = IsAscii-nil
trimmed_ascii (x ∷ xs) h = before_ascii x (trimmed xs) (h zero) (trimmed_ascii xs (λ i. h (suc i)))

some_ascii : (xs : Text) → IsAscii xs → IsAscii (at_least_one xs)
some_ascii [] h = cons_ascii 48 [] (omega arith) IsAscii-nil
some_ascii (x ∷ xs) h = h

fraction : (d : SubsecondDigits) (n : ℕ) → n ≤ 999999999 → IsUtf8 (subsecond d n)
fraction d n h = IsUtf8-from_ascii (subsecond d n) (by d)
  where
    nine : IsAscii (filled Padding.Zero 9 n)
    nine = filled_ascii Padding.Zero 9 n (omega (arith, h))

    by : (d : SubsecondDigits) → IsAscii (subsecond d n)
    by SubsecondDigits.One = IsAscii-take (filled Padding.Zero 9 n) 1 nine
    by SubsecondDigits.Two = IsAscii-take (filled Padding.Zero 9 n) 2 nine
    by SubsecondDigits.Three = IsAscii-take (filled Padding.Zero 9 n) 3 nine
    by SubsecondDigits.Four = IsAscii-take (filled Padding.Zero 9 n) 4 nine
    by SubsecondDigits.Five = IsAscii-take (filled Padding.Zero 9 n) 5 nine
    by SubsecondDigits.Six = IsAscii-take (filled Padding.Zero 9 n) 6 nine
    by SubsecondDigits.Seven = IsAscii-take (filled Padding.Zero 9 n) 7 nine
    by SubsecondDigits.Eight = IsAscii-take (filled Padding.Zero 9 n) 8 nine
    by SubsecondDigits.Nine = IsAscii-take (filled Padding.Zero 9 n) 9 nine
    by SubsecondDigits.OneOrMore =
        some_ascii (trimmed (filled Padding.Zero 9 n)) (trimmed_ascii (filled Padding.Zero 9 n) nine)

full_utf8 : (p : Padding) (n : ℕ) → n < 10 ^ 64 → IsUtf8 (full p n)
full_utf8 p n h = filled_utf8 p 4 n h

century_utf8 : (p : Padding) (n : ℕ) → n < 10 ^ 64 → IsUtf8 (century p n)
century_utf8 p n h = filled_utf8 p 2 (n / 100) (omega (arith, h))

decimal_utf8 : (n : ℕ) → n < 10 ^ 64 → IsUtf8 (decimal n)
decimal_utf8 n h = IsUtf8-from_ascii (decimal n) (IsAscii-decimal_wide n h)

extended : (b : Bool) (digits : ℕ → Text) (text : Text) → ((n : ℕ) → n < 10 ^ 64 → IsUtf8 (digits n))
    → IsExtended b digits text → IsUtf8 text
extended b digits text each is =
    signed 999999 999999 _ digits text (omega arith) (omega arith) each is

standard : (b : Bool) (digits : ℕ → Text) (text : Text) → ((n : ℕ) → n < 10 ^ 64 → IsUtf8 (digits n))
    → IsStandard b digits text → IsUtf8 text
standard b digits text each is =
    signed 9999 9999 _ digits text (omega arith) (omega arith) each is

empty : (text : Text) → text ≡ [] → IsUtf8 text
empty text is = subst IsUtf8 (sym is) IsUtf8-nil

listed : (c : Component) (text : Text) → IsText c text → IsUtf8 text
listed (Day m) text is = number 1 31 2 m.padding text (omega arith) is
listed (MonthShort m) text is = name_of short_months text refl is
listed (MonthLong m) text is = name_of long_months text refl is
listed (MonthNumerical m) text is = number 1 12 2 m.padding text (omega arith) is
listed (Ordinal m) text is = number 1 366 3 m.padding text (omega arith) is
listed (WeekdayShort m) text is = name_of short_weekdays text refl is
listed (WeekdayLong m) text is = name_of long_weekdays text refl is
listed (WeekdaySunday m) text is = weekday m.one_indexed text is
listed (WeekdayMonday m) text is = weekday m.one_indexed text is
listed (WeekNumberIso m) text is = number 1 53 2 m.padding text (omega arith) is
listed (WeekNumberSunday m) text is = number 0 53 2 m.padding text (omega arith) is
listed (WeekNumberMonday m) text is = number 0 53 2 m.padding text (omega arith) is
listed (CalendarYearFullExtendedRange m) text is =
    extended m.sign_is_mandatory (full m.padding) text (full_utf8 m.padding) is
listed (CalendarYearFullStandardRange m) text is =
    standard m.sign_is_mandatory (full m.padding) text (full_utf8 m.padding) is
listed (CalendarYearCenturyExtendedRange m) text is =
    extended m.sign_is_mandatory (century m.padding) text (century_utf8 m.padding) is
listed (CalendarYearCenturyStandardRange m) text is =
    standard m.sign_is_mandatory (century m.padding) text (century_utf8 m.padding) is
listed (IsoYearFullExtendedRange m) text is =
    extended m.sign_is_mandatory (full m.padding) text (full_utf8 m.padding) is
listed (IsoYearFullStandardRange m) text is =
    standard m.sign_is_mandatory (full m.padding) text (full_utf8 m.padding) is
listed (IsoYearCenturyExtendedRange m) text is =
    extended m.sign_is_mandatory (century m.padding) text (century_utf8 m.padding) is
listed (IsoYearCenturyStandardRange m) text is =
    standard m.sign_is_mandatory (century m.padding) text (century_utf8 m.padding) is
listed (CalendarYearLastTwo m) text is = number 0 99 2 m.padding text (omega arith) is
listed (IsoYearLastTwo m) text is = number 0 99 2 m.padding text (omega arith) is
listed (Hour12 m) text is = number 1 12 2 m.padding text (omega arith) is
listed (Hour24 m) text is = number 0 23 2 m.padding text (omega arith) is
listed (Minute m) text is = number 0 59 2 m.padding text (omega arith) is
listed (Second m) text is = number 0 59 2 m.padding text (omega arith) is
listed (OffsetMinute m) text is = number 0 59 2 m.padding text (omega arith) is
listed (OffsetSecond m) text is = number 0 59 2 m.padding text (omega arith) is
listed (Period m) text is = period m.is_uppercase text is
listed (Subsecond m) text is = subst IsUtf8 (sym is.2) (fraction m.digits is.0 is.1)
listed (OffsetHour m) text is =
    signed 25 25 _ (filled m.padding 2) text (omega arith) (omega arith) (filled_utf8 m.padding 2) is
listed (UnixTimestampSecond m) text is =
    signed 31619087596800 31494784780799 _ decimal text (omega arith) (omega arith) decimal_utf8 is
listed (UnixTimestampMillisecond m) text is =
    signed 31619087596800000 31494784780799999 _ decimal text (omega arith) (omega arith) decimal_utf8 is
listed (UnixTimestampMicrosecond m) text is =
    signed 31619087596800000000 31494784780799999999 _ decimal text (omega arith) (omega arith) decimal_utf8 is
listed (UnixTimestampNanosecond m) text is =
    signed 31619087596800000000000 31494784780799999999999 _ decimal text (omega arith) (omega arith) decimal_utf8 is
listed (Ignore m) text is = empty text is
listed (End m) text is = empty text is
listed (Month m) text is = empty text is
listed (Weekday m) text is = empty text is
listed (WeekNumber m) text is = empty text is
listed (Hour m) text is = empty text is
listed (UnixTimestamp m) text is = empty text is
listed (Year m) text is = empty text is

minus_zero : (c : Component) (text : Text) → IsMinusZero c text → IsUtf8 text
minus_zero (OffsetHour m) text z =
    subst IsUtf8 (sym z) (minus (filled m.padding 2 0) (filled_utf8 m.padding 2 0 (omega arith)))
minus_zero (UnixTimestampMillisecond m) text z =
    subst IsUtf8 (sym z) (minus (decimal 0) (decimal_utf8 0 (omega arith)))
minus_zero (UnixTimestampMicrosecond m) text z =
    subst IsUtf8 (sym z) (minus (decimal 0) (decimal_utf8 0 (omega arith)))
minus_zero _ text z = absurd z

text_utf8 : (c : Component) (text : Text) → IsTextOf c text → IsUtf8 text
text_utf8 c text (inl is) = listed c text is
text_utf8 c text (inr z) = minus_zero c text z

field_utf8 : (c : Component) (r : Result WrittenField Lack) → IfOk r (λ f. IsTextOf c (field_text f))
    → IfOk (text_of c r) IsUtf8
field_utf8 c (Ok f) h = text_utf8 c (field_text f) h
field_utf8 c (Err l) h = tt

pub shown_utf8 : (m : Moment) (c : Component) → IfOk (shown m c) IsUtf8
shown_utf8 m c = field_utf8 (modern c) (field m (modern c)) (renders m (modern c))

pub followed_utf8 : (x y : Result Text Unshown) → IfOk x IsUtf8 → IfOk y IsUtf8
    → IfOk (followed x y) IsUtf8
followed_utf8 (Ok a) (Ok b) f g = IsUtf8-append a b f g
followed_utf8 (Ok a) (Err u) f g = tt
followed_utf8 (Err u) y f g = tt

mutual
  pub written_utf8 : (m : Moment) (t : Tree) → HasUtf8Literals t → IfOk (written m t) IsUtf8
  written_utf8 m (component c) is = shown_utf8 m c
  written_utf8 m (literal bytes) is = is
  written_utf8 m (compound ts) is = written_all_utf8 m ts is
  written_utf8 m (optional true t) is = written_utf8 m t is
  written_utf8 m (optional false t) is = IsUtf8-nil
  written_utf8 m (first ts) is = written_first_utf8 m ts is

  pub written_all_utf8 : (m : Moment) (ts : Trees) → HaveUtf8Literals ts → IfOk (written_all m ts) IsUtf8
  written_all_utf8 m no_trees is = IsUtf8-nil
  written_all_utf8 m (more_trees t ts) is =
      followed_utf8 (written m t) (written_all m ts) (written_utf8 m t is.0) (written_all_utf8 m ts is.1)

  written_first_utf8 : (m : Moment) (ts : Trees) → HaveUtf8Literals ts → IfOk (written_first m ts) IsUtf8
  written_first_utf8 m no_trees is = IsUtf8-nil
  written_first_utf8 m (more_trees t ts) is = written_utf8 m t is.0
