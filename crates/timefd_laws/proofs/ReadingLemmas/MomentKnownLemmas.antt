-- What is known about a moment that was read.
use Rattle.std.proofs.Common.{◌≡◌, ◌∙◌, Bool, true, false, Option, Some, None, Result, Ok, refl, sym, ap, subst}
use Rattle.std.specs.Prelude.{is_some, ⊤}
use Rattle.timefd_date_format.specs.Kinds.{Kind}
use Rattle.timefd_date_format.specs.Kinds as of
use Rattle.timefd_date_moment.specs.declared.date.Date.{Date}
use Rattle.timefd_date_moment.specs.declared.time.Time.{Time}
use Rattle.timefd_date_moment.specs.declared.offset.UtcOffset.{UtcOffset}
use Rattle.timefd_date_moment.specs.declared.moment.Moment.{Moment}
use Rattle.timefd_date_moment.specs.declared.unix_time.UnixTime.{UnixTime}
use Rattle.timefd_date_moment.specs.Instants.{is_within}
use Rattle.timefd_date_moment.specs.Moments.{unix_time}
use Rattle.timefd_date_moment.specs.declared.fields.fields.Fields.{Fields}
use Rattle.timefd_date_moment.specs.declared.reading.error.ValueError.{ValueError}
use Rattle.timefd_date_moment.specs.declared.reading.part.Part.TheVariants as part
use Rattle.timefd_date_moment.specs.Reading.Known.{has_date, has_offset, has_time}
use Rattle.timefd_date_moment.specs.Reading.Offsets.{IsOffsetOf}
use Rattle.timefd_date_moment.specs.Reading.Shown.{DateAgrees}
use Rattle.timefd_date_moment.specs.Reading.Stamps.{instant_read}
use Rattle.timefd_date_moment.specs.Reading.Values.{IsDateBy, IsDateOf, IsMomentBy, IsMomentOf, IsPart, IsTimeBy, IsTimeOf}
use Rattle.timefd_date_moment.proofs.ReadingLemmas.ShownLemmas.{clash}
use Rattle.timefd_date_moment.proofs.ReadingLemmas.StampedLemmas.{unix_at}
use Rattle.timefd_laws.specs.Reading.WrittenValues.{HasValuesBy, IsKnownIf}
use Rattle.timefd_laws.proofs.ReadingLemmas.GrowLemmas.{has_kind}
use Rattle.timefd_laws.proofs.ReadingLemmas.KnownLemmas.{some_instant}
use Rattle.timefd_laws.proofs.ReadingLemmas.RestLemmas.{within_again}

-- the moment has a date, which agrees with everything that was read
pub record HasDate (m : Moment) (f : Fields) : Type 0 where
  pub date : Date
  pub is : m.date ≡ Some date
  pub agrees : DateAgrees f date

pub record HasTime (m : Moment) : Type 0 where
  pub time : Time
  pub is : m.time ≡ Some time

pub record HasOffset (m : Moment) : Type 0 where
  pub offset : UtcOffset
  pub is : m.offset ≡ Some offset

-- the moment has all three parts, and is an instant in the years of UTC
pub record HasInstant (m : Moment) (f : Fields) : Type 0 where
  pub date : Date
  pub agrees : DateAgrees f date
  pub is_date : m.date ≡ Some date
  pub time : Time
  pub is_time : m.time ≡ Some time
  pub offset : UtcOffset
  pub is_offset : m.offset ≡ Some offset
  pub within : is_within (unix_time date time offset) ≡ true

abbrev pub Has : Kind → Moment → Fields → Type 0
Has of.Date m f = HasDate m f
Has of.Time m f = HasTime m
Has of.Offset m f = HasOffset m
Has of.Instant m f = HasInstant m f
Has of.Nothing m f = ⊤

pub of_instant : (m : Moment) (f : Fields) (k : Kind) → HasInstant m f → Has k m f
of_instant m f of.Date h = record { date = h.date; is = h.is_date; agrees = h.agrees }
of_instant m f of.Time h = record { time = h.time; is = h.is_time }
of_instant m f of.Offset h = record { offset = h.offset; is = h.is_offset }
of_instant m f of.Instant h = h
of_instant m f of.Nothing h = tt

-- If a value is needed, it is known.
pub value_known : {A : Type 0} (Is : A → Type 0) (b : Bool) (x : Option A) (P : Type 0) → b ≡ true → IsKnownIf b Is x
    → ((a : A) → x ≡ Some a → Is a → P) → P
value_known Is true (Some a) P e h k = k a refl h
value_known Is true None P e h k = absurd h
value_known Is false x P e h k = absurd (clash true (sym e) refl)

no_stamp : (x : Option UnixTime) → x ≡ None → is_some x ≡ true → ⊥
no_stamp x none some = clash (is_some x) (ap is_some none) some

-- Without a timestamp, a part is known if something was read about it.
pub by_parts : (m : Moment) (f : Fields) (k : Kind) → instant_read f ≡ None → HasValuesBy None m f → has_kind k f ≡ true
    → Has k m f
by_parts m f of.Date none h e =
    value_known (λ d. IsDateOf f (Ok d)) (has_date f) m.date (HasDate m f) e h.0
    (λ d is has. record {
      date = d;
      is = is;
      agrees = (subst (λ (x : Option UnixTime). IsDateBy x f (Ok d)) none has).0;
    })
by_parts m f of.Time none h e =
    value_known (λ t. IsTimeOf f (Ok t)) (has_time f) m.time (HasTime m) e h.1
    (λ t is has. record { time = t; is = is })
by_parts m f of.Offset none h e =
    value_known (λ o. IsOffsetOf f (Ok o)) (has_offset f) m.offset (HasOffset m) e h.2
    (λ o is has. record { offset = o; is = is })
by_parts m f of.Instant none h e =
    absurd (no_stamp (instant_read f) none
    (some_instant f.subsecond f.unix_nanosecond f.unix_microsecond f.unix_millisecond f.unix_second ∙ e))
by_parts m f of.Nothing none h e = tt

-- The same holds for the parts of a moment that reading gave.
part_known : {A : Type 0} (Is : Result A ValueError → Type 0) (b : Bool) (x : Option A) → IsPart b Is (Ok x)
    → IsKnownIf b (λ a. Is (Ok a)) x
part_known Is false x h = tt
part_known Is true (Some a) h = h
part_known Is true None h = absurd h

values_of : (m : Moment) (f : Fields) → instant_read f ≡ None → IsMomentBy None f (Ok m) → HasValuesBy None m f
values_of m f none h = (
  part_known (IsDateOf f) (has_date f) m.date
      (subst (λ (x : Option UnixTime). IsPart (has_date f) (IsDateBy x f) (Ok (m.date))) (sym none) h.0),
  part_known (IsTimeOf f) (has_time f) m.time
      (subst (λ (x : Option UnixTime). IsPart (has_time f) (IsTimeBy x f) (Ok (m.time))) (sym none) h.1),
  part_known (IsOffsetOf f) (has_offset f) m.offset h.2,
)

by_instant : (m : Moment) (f : Fields) (u : UnixTime) → IsMomentBy (Some u) f (Ok m) → HasInstant m f
by_instant m f u (s, (agrees, at), known) = record {
  date = s.date;
  agrees = λ p. agrees (part.Date p);
  is_date = ap (λ (x : Moment). x.date) known;
  time = s.time;
  is_time = ap (λ (x : Moment). x.time) known;
  offset = s.offset;
  is_offset = ap (λ (x : Moment). x.offset) known;
  within =
      ap (λ n. is_within (unix_at n)) at.0.0 ∙ within_again u.is_negative u.nanoseconds at.0.1;
}

-- A moment that was read has every part that something was read about.
pub moment_known : (m : Moment) (f : Fields) (k : Kind) → IsMomentOf f (Ok m) → has_kind k f ≡ true → Has k m f
moment_known m f k h e = by (instant_read f) refl h
  where
    by : (x : Option UnixTime) → instant_read f ≡ x → IsMomentBy x f (Ok m) → Has k m f
    by None none h = by_parts m f k none (values_of m f none h) e
    by (Some u) is h = of_instant m f k (by_instant m f u h)
