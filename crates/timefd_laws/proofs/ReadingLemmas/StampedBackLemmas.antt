-- The values of the fields that were read back with a timestamp.
use Rattle.std.proofs.Common.{ℕ, ◌≡◌, ◌*◌, ◌/◌, true, nat_le, Option, Some, None, refl, subst}
use Rattle.std.proofs.Math.Nat.{mul-div_cancel}
use Rattle.std.proofs.lemmas.Bool.{eq-eqb}
use Rattle.timefd_lang_component.specs.Tree.{Tree}
use Rattle.timefd_date_moment.specs.declared.date.Date.{Date}
use Rattle.timefd_date_moment.specs.declared.time.Time.{Time}
use Rattle.timefd_date_moment.specs.declared.offset.UtcOffset.{UtcOffset}
use Rattle.timefd_date_moment.specs.Moments.{hour_of_twelve, unix_time}
use Rattle.timefd_date_moment.specs.declared.fields.fields.Fields.{Fields}
use Rattle.timefd_date_moment.specs.Fields.Readings.{unit}
use Rattle.timefd_date_moment.specs.declared.reading.part.InstantPart.{InstantPart}
use Rattle.timefd_date_moment.specs.declared.reading.part.Part.TheVariants as part
use Rattle.timefd_date_moment.specs.declared.reading.part.TimePart.{TimePart}
use Rattle.timefd_date_moment.specs.Reading.StampLaws.{IsRead}
use Rattle.timefd_date_moment.specs.Reading.Stamped.{MomentAgrees, has_digits, stamp_has, time_shows, whole_seconds}
use Rattle.timefd_date_moment.proofs.ReadingLemmas.StampLawLemmas as lower
use Rattle.timefd_laws.specs.Reading.Shown.{Shows, cut_where, fields_shown, shows}
use Rattle.timefd_laws.specs.Reading.StampedValues.{IsStampedBack, StampedDateReadBack, StampedInstantReadBack}
use Rattle.timefd_laws.specs.Reading.StampedValues.{StampedMomentReadBack, StampedTimeReadBack}
use Rattle.timefd_laws.specs.Reading.Values.{HasNoMoreOffset}
use Rattle.timefd_laws.proofs.ReadingLemmas.FractionCutLemmas.{some_unit}
use Rattle.timefd_laws.proofs.ReadingLemmas.ValueBackLemmas.{date_agrees, offset_agrees, read_is, shown_amount, shown_count}
use Rattle.timefd_laws.proofs.ReadingLemmas.ValueBackLemmas.{shown_flag}

digits_shown : (digits : Option ℕ) (n : ℕ) → has_digits (cut_where digits n) n ≡ true
digits_shown None n = refl
digits_shown (Some k) n =
    eq-eqb (n / unit k * unit k / unit k) (n / unit k) (mul-div_cancel (n / unit k) (some_unit k))

time_is : (d : Date) (t : Time) (o : UtcOffset) (s : Shows) (p : TimePart)
    → time_shows (fields_shown d t o s) t p ≡ true
time_is d t o s TimePart.Hour = shown_count s.hour t.hour
time_is d t o s TimePart.Hour12 = shown_count s.hour_12 (hour_of_twelve t.hour)
time_is d t o s TimePart.Period = shown_flag s.is_afternoon (nat_le 12 t.hour)
time_is d t o s TimePart.Minute = shown_count s.minute t.minute
time_is d t o s TimePart.Second = shown_count s.second t.second
time_is d t o s TimePart.Subsecond = digits_shown s.subsecond t.nanosecond

stamp_is : (d : Date) (t : Time) (o : UtcOffset) (s : Shows) (p : InstantPart)
    → stamp_has (fields_shown d t o s) (unix_time d t o) p ≡ true
stamp_is d t o s InstantPart.Second =
    shown_amount s.unix_second (unix_time d t o).is_negative (unix_time d t o).nanoseconds
    (whole_seconds (unix_time d t o)) (whole_seconds (unix_time d t o)) refl
stamp_is d t o s InstantPart.Millisecond =
    shown_amount s.unix_millisecond (unix_time d t o).is_negative (unix_time d t o).nanoseconds
    ((unix_time d t o).nanoseconds / 1000000) ((unix_time d t o).nanoseconds / 1000000) refl
stamp_is d t o s InstantPart.Microsecond =
    shown_amount s.unix_microsecond (unix_time d t o).is_negative (unix_time d t o).nanoseconds
    ((unix_time d t o).nanoseconds / 1000) ((unix_time d t o).nanoseconds / 1000) refl
stamp_is d t o s InstantPart.Nanosecond =
    shown_amount s.unix_nanosecond (unix_time d t o).is_negative (unix_time d t o).nanoseconds
    (unix_time d t o).nanoseconds (unix_time d t o).nanoseconds refl

pub moment_is : (d : Date) (t : Time) (o : UtcOffset) (s : Shows) → HasNoMoreOffset (fields_shown d t o s) o
    → MomentAgrees (fields_shown d t o s) d t o
moment_is d t o s more (part.Date p) = date_agrees d t o s p
moment_is d t o s more (part.Time p) = time_is d t o s p
moment_is d t o s more (part.Offset p) = offset_agrees d t o s more p
moment_is d t o s more (part.Instant p) = stamp_is d t o s p

is_read : (d : Date) (t : Time) (o : UtcOffset) (tree : Tree) (f : Fields) → IsStampedBack d t o tree f
    → IsRead f d t o
is_read d t o tree f (back, zone, more, digits, within) = (
  subst (λ (g : Fields). HasNoMoreOffset g o → MomentAgrees g d t o) (read_is d t o tree f back)
      (moment_is d t o (shows tree)) more,
  zone,
  within,
  digits,
)

pub stamped_date_read_back : StampedDateReadBack
stamped_date_read_back d t o tree f u r back some is =
    lower.stamped_date_back f u d t o r some (is_read d t o tree f back) is

pub stamped_time_read_back : StampedTimeReadBack
stamped_time_read_back d t o tree f u r back some is =
    lower.stamped_time_back f u d t o r some (is_read d t o tree f back) is

pub stamped_moment_read_back : StampedMomentReadBack
stamped_moment_read_back d t o tree f u r back some is =
    lower.stamped_moment_back f u d t o r some (is_read d t o tree f back) is

pub stamped_instant_read_back : StampedInstantReadBack
stamped_instant_read_back d t o tree f u r back some is =
    lower.stamped_instant_back f u d t o r some (is_read d t o tree f back) is
