-- What the text of a component begins with.
use Rattle.std.proofs.Common.{ℕ, ◌≡◌, ◌<◌, ◌+◌, ◌-◌, ◌/◌, ◌++◌, ◌&&◌, ◌||◌, zero, suc, Bool, true, false, not, nat_le}
use Rattle.std.proofs.Common.{if◌then◌else◌, List, [], ◌∷◌, get_or, length, Option, Some, None, Result, Ok, Err, IfOk, refl}
use Rattle.std.proofs.Common.{sym, ap, arith}
use Rattle.std.specs.Char.{is_ascii_digit}
use Rattle.std.specs.List.{prefix_len}
use Rattle.std.proofs.lemmas.Bool.{not-true, or_left}
use Rattle.timefd_lang_component.specs.declared.component.Component.{Component}
use Rattle.timefd_lang_component.specs.declared.component.Component.TheVariants as of
use Rattle.timefd_lang_component.specs.Texts.{filled, long_months, long_weekdays, short_months, short_weekdays}
use Rattle.timefd_lang_component.specs.Tree.{Text}
use Rattle.timefd_date_format.specs.declared.field.WrittenField.{WrittenField}
use Rattle.timefd_date_format.specs.declared.field.Lack.{Lack}
use Rattle.timefd_date_format.specs.Fields.{field, field_text, instant_field, on_date, on_offset, on_time, period_text, sign_of}
use Rattle.timefd_date_format.specs.Fields.{sign_text, stamp_field, stamp_of, year}
use Rattle.timefd_date_format.proofs.TextLemmas.{of_instant}
use Rattle.timefd_modifier.specs.declared.enums.Padding.{Padding}
use Rattle.timefd_date_moment.specs.declared.date.Date.{Date}
use Rattle.timefd_date_moment.specs.declared.time.Time.{Time}
use Rattle.timefd_date_moment.specs.declared.offset.UtcOffset.{UtcOffset}
use Rattle.timefd_date_moment.specs.declared.moment.Moment.{Moment}
use Rattle.timefd_date_moment.specs.declared.unix_time.UnixTime.{UnixTime}
use Rattle.timefd_date_moment.specs.Moments.{days_from_monday, is_before_zero, iso_years, magnitude, unix_time}
use Rattle.timefd_date_moment.specs.Fields.Laws.{HasNoDigit}
use Rattle.timefd_date_moment.specs.Reading.Stamped.{whole_seconds}
use Rattle.timefd_date_moment.proofs.ReadingLemmas.ShownLemmas.{clash}
use Rattle.timefd_date_moment.proofs.ReadingLemmas.YearLemmas.{both}
use Rattle.timefd_lang_warnings.specs.declared.settled.bound.Bound.{Bound}
use Rattle.timefd_laws.specs.Reading.Bounds.{IsBounded}
use Rattle.timefd_lang_warnings.specs.Settling.Settled.{component_begin, signed_begin}
use Rattle.timefd_laws.proofs.ReadingLemmas.RowLemmas.{of_year}

-- a text begins as `begin` says if what follows it is as `known` says
abbrev pub Begins : Bound → Bound → Text → Type 0
Begins known begin text = (rest : Text) → IsBounded known rest → IsBounded begin (text ++ rest)

-- names

abbrev begins_with_letter : Text → Bool
begins_with_letter [] = false
begins_with_letter (b ∷ bytes) = not (is_ascii_digit b)

abbrev begin_with_letters : List Text → Bool
begin_with_letters [] = true
begin_with_letters (name ∷ names) = begins_with_letter name && begin_with_letters names

letter : (name rest : Text) → begins_with_letter name ≡ true → HasNoDigit (name ++ rest)
letter [] rest e = absurd cc
letter (b ∷ name) rest e =
    ap (λ t. if t then 1 + prefix_len is_ascii_digit (name ++ rest) else 0) (not-true (is_ascii_digit b) e)

name_begins : (names : List Text) (n : ℕ) (rest : Text) → begin_with_letters names ≡ true
    → n < length names → HasNoDigit (get_or names n [] ++ rest)
name_begins [] n rest e h = absurd (omega (arith, h))
name_begins (name ∷ names) zero rest e h =
    letter name rest (both (begins_with_letter name) (begin_with_letters names) e).0
name_begins (name ∷ names) (suc n) rest e h =
    name_begins names n rest (both (begins_with_letter name) (begin_with_letters names) e).1 (omega (arith, h))

period_begins : (u b : Bool) (rest : Text) → HasNoDigit (period_text u b ++ rest)
period_begins true true rest = refl
period_begins true false rest = refl
period_begins false true rest = refl
period_begins false false rest = refl

-- signs

sign_begins : (known : Bound) (mandatory negative plus : Bool) (xs : Text) → (mandatory ≡ true → plus ≡ true)
    → Begins known (signed_begin mandatory) (sign_text (sign_of negative plus) ++ xs)
sign_begins known false negative plus xs e rest h = tt
sign_begins known true true plus xs e rest h = refl
sign_begins known true false true xs e rest h = refl
sign_begins known true false false xs e rest h = absurd (clash true (sym (e refl)) refl)

-- fields

each_date : (P : WrittenField → Type 0) (known : Option Date) (g : Date → Result WrittenField Lack)
    → ((d : Date) → IfOk (g d) P) → IfOk (on_date known g) P
each_date P None g h = tt
each_date P (Some d) g h = h d

each_time : (P : WrittenField → Type 0) (known : Option Time) (g : Time → Result WrittenField Lack)
    → ((t : Time) → IfOk (g t) P) → IfOk (on_time known g) P
each_time P None g h = tt
each_time P (Some t) g h = h t

each_offset : (P : WrittenField → Type 0) (known : Option UtcOffset) (g : UtcOffset → Result WrittenField Lack)
    → ((o : UtcOffset) → IfOk (g o) P) → IfOk (on_offset known g) P
each_offset P None g h = tt
each_offset P (Some o) g h = h o

unknown : (known : Bound) (r : Result WrittenField Lack)
    → IfOk r (λ f. Begins known Bound.Anything (field_text f))
unknown known (Ok f) = λ rest h. tt
unknown known (Err l) = tt

-- a field that begins with a sign if one is mandatory
abbrev BeginsSigned : Bound → Bool → WrittenField → Type 0
BeginsSigned known mandatory f = Begins known (signed_begin mandatory) (field_text f)

year_begins : (known : Bound) (greatest width unit : ℕ) (p : Padding) (mandatory : Bool) (y : ℕ)
    → IfOk (year greatest width unit p mandatory y) (BeginsSigned known mandatory)
year_begins known greatest width unit p mandatory y =
    of_year (BeginsSigned known mandatory) greatest width unit p mandatory y
    (λ small. sign_begins known mandatory (is_before_zero y) (mandatory || nat_le 10000 (magnitude y))
    (filled p width (magnitude y / unit)) (or_left mandatory (nat_le 10000 (magnitude y))))

stamp_begins : (known : Bound) (mandatory : Bool) (u : UnixTime) (n : ℕ)
    → BeginsSigned known mandatory (stamp_of mandatory u n)
stamp_begins known mandatory u n =
    sign_begins known mandatory u.is_negative mandatory (filled Padding.None 1 n) (λ e. e)

each_instant : (P : WrittenField → Type 0) (m : Moment) (c : Component) → ((u : UnixTime) → P (stamp_field u c))
    → IfOk (on_date m.date (λ d. on_time m.time (λ t. on_offset m.offset (λ o. instant_field (unix_time d t o) c)))) P
each_instant P m c h =
    each_date P m.date _ (λ d. each_time P m.time _ (λ t. each_offset P m.offset _ (λ o.
    of_instant P (unix_time d t o) c (λ inside. h (unix_time d t o)))))

pub field_begins : (m : Moment) (known : Bound) (c : Component)
    → IfOk (field m c) (λ f. Begins known (component_begin c known) (field_text f))
field_begins m known (of.MonthShort p) =
    each_date _ m.date _ (λ d rest h. name_begins short_months (d.month - 1) rest refl (omega (arith, d.exists)))
field_begins m known (of.MonthLong p) =
    each_date _ m.date _ (λ d rest h. name_begins long_months (d.month - 1) rest refl (omega (arith, d.exists)))
field_begins m known (of.WeekdayShort p) =
    each_date _ m.date _ (λ d rest h. name_begins short_weekdays (days_from_monday d) rest refl (omega arith))
field_begins m known (of.WeekdayLong p) =
    each_date _ m.date _ (λ d rest h. name_begins long_weekdays (days_from_monday d) rest refl (omega arith))
field_begins m known (of.CalendarYearFullExtendedRange p) =
    each_date _ m.date _ (λ d. year_begins known 999999 4 1 p.padding p.sign_is_mandatory d.years)
field_begins m known (of.CalendarYearFullStandardRange p) =
    each_date _ m.date _ (λ d. year_begins known 9999 4 1 p.padding p.sign_is_mandatory d.years)
field_begins m known (of.CalendarYearCenturyExtendedRange p) =
    each_date _ m.date _ (λ d. year_begins known 999999 2 100 p.padding p.sign_is_mandatory d.years)
field_begins m known (of.CalendarYearCenturyStandardRange p) =
    each_date _ m.date _ (λ d. year_begins known 9999 2 100 p.padding p.sign_is_mandatory d.years)
field_begins m known (of.IsoYearFullExtendedRange p) =
    each_date _ m.date _ (λ d. year_begins known 999999 4 1 p.padding p.sign_is_mandatory (iso_years d))
field_begins m known (of.IsoYearFullStandardRange p) =
    each_date _ m.date _ (λ d. year_begins known 9999 4 1 p.padding p.sign_is_mandatory (iso_years d))
field_begins m known (of.IsoYearCenturyExtendedRange p) =
    each_date _ m.date _ (λ d. year_begins known 999999 2 100 p.padding p.sign_is_mandatory (iso_years d))
field_begins m known (of.IsoYearCenturyStandardRange p) =
    each_date _ m.date _ (λ d. year_begins known 9999 2 100 p.padding p.sign_is_mandatory (iso_years d))
field_begins m known (of.Period p) =
    each_time _ m.time _ (λ t rest h. period_begins p.is_uppercase (nat_le 12 t.hour) rest)
field_begins m known (of.OffsetHour p) =
    each_offset _ m.offset _ (λ o. sign_begins known p.sign_is_mandatory o.is_negative p.sign_is_mandatory
    (filled p.padding 2 (o.seconds / 3600)) (λ e. e))
field_begins m known (of.UnixTimestampSecond p) =
    each_instant _ m (of.UnixTimestampSecond p) (λ u. stamp_begins known p.sign_is_mandatory u (whole_seconds u))
field_begins m known (of.UnixTimestampMillisecond p) =
    each_instant _ m (of.UnixTimestampMillisecond p) (λ u. stamp_begins known p.sign_is_mandatory u (u.nanoseconds / 1000000))
field_begins m known (of.UnixTimestampMicrosecond p) =
    each_instant _ m (of.UnixTimestampMicrosecond p) (λ u. stamp_begins known p.sign_is_mandatory u (u.nanoseconds / 1000))
field_begins m known (of.UnixTimestampNanosecond p) =
    each_instant _ m (of.UnixTimestampNanosecond p) (λ u. stamp_begins known p.sign_is_mandatory u u.nanoseconds)
field_begins m known (of.Ignore p) = λ rest h. h
field_begins m known (of.End p) = λ rest h. h
field_begins m known (of.Month p) = λ rest h. h
field_begins m known (of.Weekday p) = λ rest h. h
field_begins m known (of.WeekNumber p) = λ rest h. h
field_begins m known (of.Hour p) = λ rest h. h
field_begins m known (of.UnixTimestamp p) = λ rest h. h
field_begins m known (of.Year p) = λ rest h. h
field_begins m known c = unknown known (field m c)
