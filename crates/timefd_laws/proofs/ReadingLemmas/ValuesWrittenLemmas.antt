-- Values that were read are written.
use Rattle.std.proofs.Common.{ℕ, ◌≡◌, ◌∙◌, ◌+◌, ◌-◌, ◌*◌, if◌then◌else◌, Bool, true, Option, Some, None, Ok}
use Rattle.std.proofs.Common.{refl, sym, ap, subst}
use Rattle.timefd_date_format.specs.Kinds.{Kind}
use Rattle.timefd_date_moment.specs.declared.date.Date.{Date}
use Rattle.timefd_date_moment.specs.declared.time.Time.{Time}
use Rattle.timefd_date_moment.specs.declared.offset.UtcOffset.{UtcOffset}
use Rattle.timefd_date_moment.specs.declared.moment.Moment.{Moment}
use Rattle.timefd_date_moment.specs.declared.unix_time.UnixTime.{UnixTime}
use Rattle.timefd_date_moment.specs.Instants.{is_within}
use Rattle.timefd_date_moment.specs.Moments.{day_number, unix_time, utc_nanoseconds}
use Rattle.timefd_date_moment.specs.declared.fields.fields.Fields.{Fields}
use Rattle.timefd_date_moment.specs.declared.reading.part.Part.TheVariants as part
use Rattle.timefd_date_moment.specs.Reading.Offsets as of_offset
use Rattle.timefd_date_moment.specs.Reading.Offsets.{HasShift, IsOffsetOf}
use Rattle.timefd_date_moment.specs.Reading.Stamped.{IsAt, zone_read}
use Rattle.timefd_date_moment.specs.Reading.Stamps.{instant_read}
use Rattle.timefd_date_moment.specs.Reading.Times as of_time
use Rattle.timefd_date_moment.specs.Reading.Values.{IsDateBy, IsDateOf, IsTimeBy, IsTimeOf}
use Rattle.timefd_date_moment.proofs.ReadingLemmas.LawLemmas.{one_shift}
use Rattle.timefd_date_moment.proofs.ReadingLemmas.StampedLemmas.{one_local, unix_at}
use Rattle.timefd_laws.specs.Reading.WrittenValues.{HasValues, HasValuesBy, WritesValues}
use Rattle.timefd_laws.proofs.ReadingLemmas.GrowLemmas.{has_kind}
use Rattle.timefd_laws.proofs.ReadingLemmas.MomentKnownLemmas.{Has, HasInstant, by_parts, of_instant, value_known}
use Rattle.timefd_laws.proofs.ReadingLemmas.RestLemmas.{within_again}
use Rattle.timefd_laws.proofs.ReadingLemmas.StampedAgainLemmas.{each_result}
use Rattle.timefd_laws.proofs.ReadingLemmas.WrittenLemmas.{written_of}

-- The date and the time are those of one instant, at one offset.

one_zone : (f : Fields) (o p : UtcOffset) → HasShift (zone_read f) o → HasShift (zone_read f) p → of_offset.IsSame o p
one_zone f o p x y =
    each_result (zone_read f) (λ r. HasShift r o) (λ r. HasShift r p → of_offset.IsSame o p)
    (λ s e a b. one_shift s o p a b) (λ e a. a) x y

abbrev utc_of : ℕ → ℕ → ℕ → ℕ → ℕ → Bool → ℕ → ℕ
utc_of day h m s n is_negative seconds =
    (if is_negative then day * 86400 + (h * 3600 + m * 60 + s) + 100000 + seconds
    else day * 86400 + (h * 3600 + m * 60 + s) + 100000 - seconds) * 1000000000 + n

same_utc : (d : Date) (t v : Time) (o p : UtcOffset) → of_time.IsSame t v → of_offset.IsSame o p
    → utc_nanoseconds d t o ≡ utc_nanoseconds d v p
same_utc d t v o p same zone = (λ i.
    utc_of (day_number d) (same.0 i) (same.1 i) (same.2 i) (same.3 i) (zone.1 i) (zone.0 i))

within_years : (f : Fields) (u : UnixTime) (d e : Date) (t v : Time) (o p q : UtcOffset) → IsAt f u d t o → IsAt f u e v p
    → HasShift (zone_read f) q → is_within (unix_time d v q) ≡ true
within_years f u d e t v o p q a b h =
    let time = (one_local d e t v o p (one_zone f o p a.1 b.1) (a.0.0 ∙ sym b.0.0)).1 in
    ap (λ n. is_within (unix_at n)) (sym (same_utc d t v o q time (one_zone f o q a.1 h)) ∙ a.0.0)
    ∙ within_again u.is_negative u.nanoseconds a.0.1

read_of : (m : Moment) (f : Fields) (u : UnixTime) → instant_read f ≡ Some u → HasValuesBy (Some u) m f → HasInstant m f
read_of m f u e h =
    value_known (λ d. IsDateOf f (Ok d)) true m.date (HasInstant m f) refl h.0 (λ d is_date date.
    value_known (λ t. IsTimeOf f (Ok t)) true m.time (HasInstant m f) refl h.1 (λ t is_time time.
    value_known (HasShift (zone_read f)) true m.offset (HasInstant m f) refl h.2 (λ o is_offset zone.
    let a = subst (λ (x : Option UnixTime). IsDateBy x f (Ok d)) e date in
    let b = subst (λ (x : Option UnixTime). IsTimeBy x f (Ok t)) e time in
    record {
      date = a.0.date;
      agrees = λ p. a.1.0 (part.Date p);
      is_date = is_date ∙ ap (λ (x : Date). Some x) a.2;
      time = b.0.time;
      is_time = is_time ∙ ap (λ (x : Time). Some x) b.2;
      offset = o;
      is_offset = is_offset;
      within =
          within_years f u a.0.date b.0.date a.0.time b.0.time a.0.offset b.0.offset o a.1.1 b.1.1 zone;
    })))

values_known : (m : Moment) (f : Fields) (k : Kind) → HasValues m f → has_kind k f ≡ true → Has k m f
values_known m f k h e = by (instant_read f) refl h
  where
    by : (x : Option UnixTime) → instant_read f ≡ x → HasValuesBy x m f → Has k m f
    by None none h = by_parts m f k none h e
    by (Some u) is h = of_instant m f k (read_of m f u is h)

pub writes_values : WritesValues
writes_values m tree text f h is = written_of m tree text f (λ k. values_known m f k is) h
