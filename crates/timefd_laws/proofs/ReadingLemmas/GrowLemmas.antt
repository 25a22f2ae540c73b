-- The kinds that are known from fields stay known with one more field. So do the bounds of years.
use Rattle.std.proofs.Common.{ℕ, ◌≡◌, ◌∙◌, ◌≤◌, Bool, true, Option, Some, None, sym, ap, subst, ◌||◌}
use Rattle.std.specs.Prelude.{is_some, ⊤}
use Rattle.std.proofs.lemmas.Bool.{or_left, or_right}
use Rattle.timefd_date_format.specs.Kinds.{Kind}
use Rattle.timefd_date_format.specs.Kinds as of
use Rattle.timefd_date_moment.specs.declared.fields.fields.Fields.{Fields}
use Rattle.timefd_date_moment.specs.declared.fields.fields.Signed.{Signed}
use Rattle.timefd_date_moment.specs.Reading.Known.{has_date, has_day, has_hour, has_iso_year, has_offset, has_time, has_week}
use Rattle.timefd_date_moment.specs.Reading.Known.{has_year}

-- which kinds are known

abbrev pub has_stamp : Fields → Bool
has_stamp f =
    is_some f.unix_nanosecond || (is_some f.unix_microsecond || (is_some f.unix_millisecond || is_some f.unix_second))

abbrev pub has_kind : Kind → Fields → Bool
has_kind of.Date f = has_date f
has_kind of.Time f = has_time f
has_kind of.Offset f = has_offset f
has_kind of.Instant f = has_stamp f
has_kind of.Nothing f = true

pub one : (a b c : Bool) → a ≡ true → (a || b) || c ≡ true
one a b c e = or_left (a || b) c (or_left a b e)

pub two : (a b c : Bool) → b ≡ true → (a || b) || c ≡ true
two a b c e = or_left (a || b) c (or_right a b e)

pub three : (a b c : Bool) → c ≡ true → (a || b) || c ≡ true
three a b c e = or_right (a || b) c e

pub in_year : (f : Fields) → has_year f ≡ true → has_date f ≡ true
in_year f e = or_left _ (has_week f) (one (has_year f) (has_iso_year f) (has_day f) e)

pub in_iso_year : (f : Fields) → has_iso_year f ≡ true → has_date f ≡ true
in_iso_year f e = or_left _ (has_week f) (two (has_year f) (has_iso_year f) (has_day f) e)

pub in_day : (f : Fields) → has_day f ≡ true → has_date f ≡ true
in_day f e = or_left _ (has_week f) (three (has_year f) (has_iso_year f) (has_day f) e)

pub in_week : (f : Fields) → has_week f ≡ true → has_date f ≡ true
in_week f e = or_right ((has_year f || has_iso_year f) || has_day f) (has_week f) e

pub in_clock : (f : Fields) → (has_hour f || is_some f.minute) || is_some f.second ≡ true → has_time f ≡ true
in_clock f e = or_left ((has_hour f || is_some f.minute) || is_some f.second) (is_some f.subsecond) e

pub in_hour : (f : Fields) → has_hour f ≡ true → has_time f ≡ true
in_hour f e = in_clock f (one (has_hour f) (is_some f.minute) (is_some f.second) e)

pub by_subsecond : (f : Fields) → is_some f.subsecond ≡ true → has_time f ≡ true
by_subsecond f e = or_right ((has_hour f || is_some f.minute) || is_some f.second) (is_some f.subsecond) e

-- all the kinds that are known

pub record Kinds : Type 0 where
  pub date : Bool
  pub time : Bool
  pub offset : Bool
  pub stamp : Bool

abbrev pub kinds : Fields → Kinds
kinds f = record { date = has_date f; time = has_time f; offset = has_offset f; stamp = has_stamp f }

abbrev pub but : Kind → Kinds → Kinds
but of.Date k = record k { date = true }
but of.Time k = record k { time = true }
but of.Offset k = record k { offset = true }
but of.Instant k = record k { stamp = true }
but of.Nothing k = k

abbrev is_known : Kind → Kinds → Bool
is_known of.Date k = k.date
is_known of.Time k = k.time
is_known of.Offset k = k.offset
is_known of.Instant k = k.stamp
is_known of.Nothing k = true

-- with one more field of a kind
pub kind_more : (k : Kind) (f g : Fields) → has_kind k g ≡ true → but k (kinds f) ≡ but k (kinds g)
    → (j : Kind) → has_kind j f ≡ true → has_kind j g ≡ true
kind_more of.Date f g e same of.Date h = e
kind_more of.Time f g e same of.Time h = e
kind_more of.Offset f g e same of.Offset h = e
kind_more of.Instant f g e same of.Instant h = e
kind_more of.Nothing f g e same of.Nothing h = h
kind_more k f g e same j h = sym (ap (is_known j) same) ∙ h

-- bounds of years

pub record Years : Type 0 where
  pub year : Option Signed
  pub century : Option Signed
  pub iso_year : Option Signed
  pub iso_century : Option Signed

abbrev pub years : Fields → Years
years f = record { year = f.year; century = f.century; iso_year = f.iso_year; iso_century = f.iso_century }

pub data Range : Type 0 where
  any : Range
  year : ℕ → Range
  century : ℕ → Range
  iso_year : ℕ → Range
  iso_century : ℕ → Range

-- a number of at most this magnitude was read
abbrev pub IsAtMost : ℕ → Option Signed → Type 0
IsAtMost n None = ⊥
IsAtMost n (Some s) = s.magnitude ≤ n

abbrev pub InRange : Range → Years → Type 0
InRange any y = ⊤
InRange (year n) y = IsAtMost n y.year
InRange (century n) y = IsAtMost n y.century
InRange (iso_year n) y = IsAtMost n y.iso_year
InRange (iso_century n) y = IsAtMost n y.iso_century

-- if a field wasn't read before, it may have any value afterwards

none_at_most : (n : ℕ) (x : Option Signed) → x ≡ None → IsAtMost n x → ⊥
none_at_most n x e h = subst (IsAtMost n) e h

pub year_more : (y z : Years) → y.year ≡ None → record y { year = None } ≡ record z { year = None } → (r : Range)
    → InRange r y → InRange r z
year_more y z e same (year n) h = absurd (none_at_most n y.year e h)
year_more y z e same r h = subst (InRange r) same h

pub century_more : (y z : Years) → y.century ≡ None → record y { century = None } ≡ record z { century = None }
    → (r : Range) → InRange r y → InRange r z
century_more y z e same (century n) h = absurd (none_at_most n y.century e h)
century_more y z e same r h = subst (InRange r) same h

pub iso_year_more : (y z : Years) → y.iso_year ≡ None → record y { iso_year = None } ≡ record z { iso_year = None }
    → (r : Range) → InRange r y → InRange r z
iso_year_more y z e same (iso_year n) h = absurd (none_at_most n y.iso_year e h)
iso_year_more y z e same r h = subst (InRange r) same h

pub iso_century_more : (y z : Years) → y.iso_century ≡ None
    → record y { iso_century = None } ≡ record z { iso_century = None } → (r : Range) → InRange r y → InRange r z
iso_century_more y z e same (iso_century n) h = absurd (none_at_most n y.iso_century e h)
iso_century_more y z e same r h = subst (InRange r) same h

-- What was known stays known.

pub record Grows (f g : Fields) : Type 0 where
  pub kind : (k : Kind) → has_kind k f ≡ true → has_kind k g ≡ true
  pub range : (r : Range) → InRange r (years f) → InRange r (years g)

pub same_grows : (f : Fields) → Grows f f
same_grows f = record { kind = λ k h. h; range = λ r h. h }

pub both_grow : (f g h : Fields) → Grows f g → Grows g h → Grows f h
both_grow f g h a b = record {
  kind = λ k e. b.kind k (a.kind k e);
  range = λ r e. b.range r (a.range r e);
}

-- Something of a kind is known, and the years are in a range.
pub record Knows (k : Kind) (r : Range) (f : Fields) : Type 0 where
  pub kind : has_kind k f ≡ true
  pub range : InRange r (years f)

pub knows_more : (k : Kind) (r : Range) (f g : Fields) → Grows f g → Knows k r f → Knows k r g
knows_more k r f g h is = record { kind = h.kind k is.kind; range = h.range r is.range }
