-- The component of a node is the component that the node was made from.
use Rattle.std.proofs.Common.{◌≡◌, ℕ, zero, suc, ◌<◌, Bool, true, false, Option, Some, refl, ap, ap₂, subst, arith}
use Rattle.std.proofs.Math.Bridge.{le_prop}
use native.Mathlib.Nat.{zero-lt-suc}
use Rattle.std.specs.declared.num.NonZeroU16.{NonZeroU16}
use Rattle.timefd_modifier.specs.declared.enums.Padding.{Padding}
use Rattle.timefd_modifier.specs.declared.enums.SubsecondDigits.{SubsecondDigits}
use Rattle.timefd_modifier.specs.declared.enums.TrailingInput.{TrailingInput}
use Rattle.timefd_lang_component.specs.declared.component.Component.{Component}
use Rattle.timefd_lang_component.specs.declared.component.Component.TheVariants.{Day, MonthShort, MonthLong, MonthNumerical, Ordinal, WeekdayShort, WeekdayLong, WeekdaySunday, WeekdayMonday, WeekNumberIso, WeekNumberSunday, WeekNumberMonday, CalendarYearFullExtendedRange, CalendarYearFullStandardRange, CalendarYearCenturyExtendedRange, CalendarYearCenturyStandardRange, IsoYearFullExtendedRange, IsoYearFullStandardRange, IsoYearCenturyExtendedRange, IsoYearCenturyStandardRange, CalendarYearLastTwo, IsoYearLastTwo, Hour12, Hour24, Minute, Period, Second, Subsecond, OffsetHour, OffsetMinute, OffsetSecond, Ignore, UnixTimestampSecond, UnixTimestampMillisecond, UnixTimestampMicrosecond, UnixTimestampNanosecond, End, Month, Weekday, WeekNumber, Hour, UnixTimestamp, Year}
use Rattle.timefd_lang_component.specs.Modern.{modern}
use Rattle.timefd_lang_component.proofs.ModernLemmas.{IsReplacement, month_replaced, weekday_replaced, week_replaced, hour_replaced, timestamp_replaced, year_replaced}
use Rattle.timefd_c_nodes.specs.Encoding.{flag_number, padding_number, digits_number, trailing_input_number, component_node}
use Rattle.timefd_c_nodes.specs.Decoding.{flag_of, padding_of, digits_of, trailing_input_of, count_of, with_one, with_two, component_of}

pub flag_back : (b : Bool) → flag_of (flag_number b) ≡ Some b
flag_back true = refl
flag_back false = refl

padding_back : (p : Padding) → padding_of (padding_number p) ≡ Some p
padding_back Padding.Space = refl
padding_back Padding.Zero = refl
padding_back Padding.None = refl

digits_back : (d : SubsecondDigits) → digits_of (digits_number d) ≡ Some d
digits_back SubsecondDigits.One = refl
digits_back SubsecondDigits.Two = refl
digits_back SubsecondDigits.Three = refl
digits_back SubsecondDigits.Four = refl
digits_back SubsecondDigits.Five = refl
digits_back SubsecondDigits.Six = refl
digits_back SubsecondDigits.Seven = refl
digits_back SubsecondDigits.Eight = refl
digits_back SubsecondDigits.Nine = refl
digits_back SubsecondDigits.OneOrMore = refl

trailing_input_back : (t : TrailingInput) → trailing_input_of (trailing_input_number t) ≡ Some t
trailing_input_back TrailingInput.Prohibit = refl
trailing_input_back TrailingInput.Discard = refl

count_back : (c : NonZeroU16) → count_of c.value ≡ Some c
count_back c = by c.value c.ok
  where
    by : (n : ℕ) (p : 0 < n) → ◌≡◌ {A = Option NonZeroU16} (count_of n)
        (Some (record { value = n; ok = p }))
    by zero p = absurd (omega (arith, p))
    by (suc n) p = ap {B = Option NonZeroU16} (λ q. Some (record { value = suc n; ok = q }))
        (le_prop (zero-lt-suc n) p)

-- Components, by one modifier or by two.

by_one : {A : Type 0} {read : Option A} {a : A} (make : A → Component) → read ≡ Some a
    → with_one make read ≡ Some (make a)
by_one make e = ap (with_one make) e

by_two : {A B : Type 0} {one : Option A} {other : Option B} {a : A} {b : B}
    (make : A → B → Component) → one ≡ Some a → other ≡ Some b
    → with_two make one other ≡ Some (make a b)
by_two make e f = ap₂ (with_two make) e f

pub component_back : (c : Component) (at : ℕ) → modern c ≡ c
    → component_of (component_node c at) ≡ Some c
component_back (Day m) at h = by_one (λ p. Day (record { padding = p })) (padding_back m.padding)
component_back (MonthShort m) at h = by_one (λ s. MonthShort (record { case_sensitive = s }))
    (flag_back m.case_sensitive)
component_back (MonthLong m) at h = by_one (λ s. MonthLong (record { case_sensitive = s }))
    (flag_back m.case_sensitive)
component_back (MonthNumerical m) at h = by_one (λ p. MonthNumerical (record { padding = p }))
    (padding_back m.padding)
component_back (Ordinal m) at h = by_one (λ p. Ordinal (record { padding = p }))
    (padding_back m.padding)
component_back (WeekdayShort m) at h = by_one (λ s. WeekdayShort (record { case_sensitive = s }))
    (flag_back m.case_sensitive)
component_back (WeekdayLong m) at h = by_one (λ s. WeekdayLong (record { case_sensitive = s }))
    (flag_back m.case_sensitive)
component_back (WeekdaySunday m) at h = by_one (λ o. WeekdaySunday (record { one_indexed = o }))
    (flag_back m.one_indexed)
component_back (WeekdayMonday m) at h = by_one (λ o. WeekdayMonday (record { one_indexed = o }))
    (flag_back m.one_indexed)
component_back (WeekNumberIso m) at h = by_one (λ p. WeekNumberIso (record { padding = p }))
    (padding_back m.padding)
component_back (WeekNumberSunday m) at h = by_one (λ p. WeekNumberSunday (record { padding = p }))
    (padding_back m.padding)
component_back (WeekNumberMonday m) at h = by_one (λ p. WeekNumberMonday (record { padding = p }))
    (padding_back m.padding)
component_back (CalendarYearFullExtendedRange m) at h = by_two
    (λ p s. CalendarYearFullExtendedRange (record { padding = p; sign_is_mandatory = s }))
    (padding_back m.padding) (flag_back m.sign_is_mandatory)
component_back (CalendarYearFullStandardRange m) at h = by_two
    (λ p s. CalendarYearFullStandardRange (record { padding = p; sign_is_mandatory = s }))
    (padding_back m.padding) (flag_back m.sign_is_mandatory)
component_back (CalendarYearCenturyExtendedRange m) at h = by_two
    (λ p s. CalendarYearCenturyExtendedRange (record { padding = p; sign_is_mandatory = s }))
    (padding_back m.padding) (flag_back m.sign_is_mandatory)
component_back (CalendarYearCenturyStandardRange m) at h = by_two
    (λ p s. CalendarYearCenturyStandardRange (record { padding = p; sign_is_mandatory = s }))
    (padding_back m.padding) (flag_back m.sign_is_mandatory)
component_back (IsoYearFullExtendedRange m) at h = by_two
    (λ p s. IsoYearFullExtendedRange (record { padding = p; sign_is_mandatory = s }))
    (padding_back m.padding) (flag_back m.sign_is_mandatory)
component_back (IsoYearFullStandardRange m) at h = by_two
    (λ p s. IsoYearFullStandardRange (record { padding = p; sign_is_mandatory = s }))
    (padding_back m.padding) (flag_back m.sign_is_mandatory)
component_back (IsoYearCenturyExtendedRange m) at h = by_two
    (λ p s. IsoYearCenturyExtendedRange (record { padding = p; sign_is_mandatory = s }))
    (padding_back m.padding) (flag_back m.sign_is_mandatory)
component_back (IsoYearCenturyStandardRange m) at h = by_two
    (λ p s. IsoYearCenturyStandardRange (record { padding = p; sign_is_mandatory = s }))
    (padding_back m.padding) (flag_back m.sign_is_mandatory)
component_back (CalendarYearLastTwo m) at h = by_one
    (λ p. CalendarYearLastTwo (record { padding = p })) (padding_back m.padding)
component_back (IsoYearLastTwo m) at h = by_one (λ p. IsoYearLastTwo (record { padding = p }))
    (padding_back m.padding)
component_back (Hour12 m) at h = by_one (λ p. Hour12 (record { padding = p }))
    (padding_back m.padding)
component_back (Hour24 m) at h = by_one (λ p. Hour24 (record { padding = p }))
    (padding_back m.padding)
component_back (Minute m) at h = by_one (λ p. Minute (record { padding = p }))
    (padding_back m.padding)
component_back (Period m) at h = by_two
    (λ u s. Period (record { is_uppercase = u; case_sensitive = s })) (flag_back m.is_uppercase)
    (flag_back m.case_sensitive)
component_back (Second m) at h = by_one (λ p. Second (record { padding = p }))
    (padding_back m.padding)
component_back (Subsecond m) at h = by_one (λ d. Subsecond (record { digits = d }))
    (digits_back m.digits)
component_back (OffsetHour m) at h = by_two
    (λ p s. OffsetHour (record { padding = p; sign_is_mandatory = s })) (padding_back m.padding)
    (flag_back m.sign_is_mandatory)
component_back (OffsetMinute m) at h = by_one (λ p. OffsetMinute (record { padding = p }))
    (padding_back m.padding)
component_back (OffsetSecond m) at h = by_one (λ p. OffsetSecond (record { padding = p }))
    (padding_back m.padding)
component_back (Ignore m) at h = by_one (λ c. Ignore (record { count = c })) (count_back m.count)
component_back (UnixTimestampSecond m) at h = by_one
    (λ s. UnixTimestampSecond (record { sign_is_mandatory = s })) (flag_back m.sign_is_mandatory)
component_back (UnixTimestampMillisecond m) at h = by_one
    (λ s. UnixTimestampMillisecond (record { sign_is_mandatory = s }))
    (flag_back m.sign_is_mandatory)
component_back (UnixTimestampMicrosecond m) at h = by_one
    (λ s. UnixTimestampMicrosecond (record { sign_is_mandatory = s }))
    (flag_back m.sign_is_mandatory)
component_back (UnixTimestampNanosecond m) at h = by_one
    (λ s. UnixTimestampNanosecond (record { sign_is_mandatory = s }))
    (flag_back m.sign_is_mandatory)
component_back (End m) at h = by_one (λ t. End (record { trailing_input = t }))
    (trailing_input_back m.trailing_input)
component_back (Month m) at h = absurd (subst IsReplacement h (month_replaced m.repr m))
component_back (Weekday w) at h = absurd (subst IsReplacement h (weekday_replaced w.repr w))
component_back (WeekNumber w) at h = absurd (subst IsReplacement h (week_replaced w.repr w))
component_back (Hour x) at h = absurd (subst IsReplacement h (hour_replaced x.is_12_hour_clock x))
component_back (UnixTimestamp t) at h = absurd (subst IsReplacement h (timestamp_replaced t.precision t))
component_back (Year y) at h = absurd (subst IsReplacement h (year_replaced y.iso_week_based y.repr y.range y))
