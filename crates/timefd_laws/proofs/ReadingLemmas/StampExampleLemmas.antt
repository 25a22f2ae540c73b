-- A timestamp before 1970 that is read and written again.
use Rattle.std.proofs.Common.{ℕ, ◌≡◌, ◌∙◌, ◌+◌, ◌-◌, ◌*◌, ◌/◌, ◌%◌, ◌++◌, ◌==◌, inl, Bool, true, false, codes, length}
use Rattle.std.proofs.Common.{replicate, if◌then◌else◌, Result, Ok, refl, sym, ap, arith}
use Rattle.std.proofs.lemmas.Fmt.{decimal_digit}
use Rattle.std.specs.Fmt.{decimal}
use Rattle.timefd_lang_component.specs.declared.component.Component.TheVariants.{Subsecond, UnixTimestampSecond}
use Rattle.timefd_lang_component.specs.Texts.{at_least_one, filled, trimmed}
use Rattle.timefd_lang_component.specs.Tree.{Text}
use Rattle.timefd_date_format.specs.declared.field.WrittenField.TheVariants as shows
use Rattle.timefd_date_format.specs.declared.field.Unshown.{Unshown}
use Rattle.timefd_date_format.specs.Fields.{instant_field}
use Rattle.timefd_date_format.specs.Puts.{pair}
use Rattle.timefd_date_format.specs.Written.{followed, text_of}
use Rattle.timefd_date_format.proofs.DigitLemmas.{one_step}
use Rattle.timefd_modifier.specs.declared.enums.Padding.{Padding}
use Rattle.timefd_modifier.specs.declared.enums.SubsecondDigits.{SubsecondDigits}
use Rattle.timefd_date_moment.specs.declared.date.Date.{Date}
use Rattle.timefd_date_moment.specs.declared.time.Time.{Time}
use Rattle.timefd_date_moment.specs.declared.offset.UtcOffset.{UtcOffset}
use Rattle.timefd_date_moment.specs.declared.unix_time.UnixTime.{UnixTime}
use Rattle.timefd_date_moment.specs.Calendar.{days_of_months, days_of_years, ordinal}
use Rattle.timefd_date_moment.specs.Moments.{unix_start, unix_time, utc_nanoseconds}
use Rattle.timefd_date_moment.proofs.CalendarLemmas.{days_before}
use Rattle.timefd_date_moment.specs.declared.reading.part.DatePart.{DatePart}
use Rattle.timefd_date_moment.specs.declared.reading.part.InstantPart.{InstantPart}
use Rattle.timefd_date_moment.specs.declared.reading.part.OffsetPart.{OffsetPart}
use Rattle.timefd_date_moment.specs.declared.reading.part.Part.TheVariants as part
use Rattle.timefd_date_moment.specs.declared.reading.part.TimePart.{TimePart}
use Rattle.timefd_date_moment.specs.Reading.Offsets.{ShiftHas}
use Rattle.timefd_date_moment.specs.Reading.Stamped.{MomentAgrees, has_digits, stamp_has, utc_shift}
use Rattle.timefd_date_moment.proofs.ReadingLemmas.StampedLemmas.{unix_at}
use Rattle.timefd_laws.specs.Reading.Examples.{IsHalfBefore, StampAgainExample, stamp_fields}

-- the instant

abbrev nanoseconds_at : ℕ → ℕ → ℕ → ℕ → ℕ → ℕ → ℕ → Bool → ℕ → ℕ
nanoseconds_at y m n h x s k b seconds =
    (if b then (days_of_years y + (ordinal y m n - 1)) * 86400 + (h * 3600 + x * 60 + s) + 100000 + seconds
    else (days_of_years y + (ordinal y m n - 1)) * 86400 + (h * 3600 + x * 60 + s) + 100000 - seconds)
    * 1000000000 + k

-- the last day of 1969, and half a second before its end
abbrev half_at : ℕ → ℕ → Bool → ℕ
half_at years months b =
    (if b then (years + (months + 31 - 1)) * 86400 + 86399 + 100000 + 0
    else (years + (months + 31 - 1)) * 86400 + 86399 + 100000 - 0) * 1000000000 + 500000000

eleven_months : days_of_months 1001969 11 ≡ 334
unfolding days_of_months
eleven_months = refl

at_half : (b : Bool) → nanoseconds_at 1001969 12 31 23 59 59 500000000 b 0 ≡ unix_start * 1000000000 - 500000000
at_half true = λ i. half_at (sym (days_before 1001969) i) (eleven_months i) true
at_half false = λ i. half_at (sym (days_before 1001969) i) (eleven_months i) false

counted : (d : Date) (t : Time) (o : UtcOffset) → IsHalfBefore d t o
    → utc_nanoseconds d t o ≡ unix_start * 1000000000 - 500000000
counted d t o h =
    (λ i. nanoseconds_at (h.0 i) (h.1 i) (h.2 i) (h.3 i) (h.4 i) (h.5 i) (h.6 i) o.is_negative (h.7 i))
    ∙ at_half o.is_negative

abbrev half : UnixTime
half = record { is_negative = true; nanoseconds = 500000000 }

instant : (d : Date) (t : Time) (o : UtcOffset) → IsHalfBefore d t o → unix_time d t o ≡ half
instant d t o h = ap unix_at (counted d t o h)

-- the texts

abbrev texts_of : UnixTime → ℕ → Result Text Unshown
texts_of u n = followed
    (text_of (UnixTimestampSecond (record { sign_is_mandatory = false }))
    (instant_field u (UnixTimestampSecond (record { sign_is_mandatory = false }))))
    (followed (Ok (codes "."))
    (followed (text_of (Subsecond (record { digits = SubsecondDigits.OneOrMore }))
    (Ok (shows.Fraction SubsecondDigits.OneOrMore n))) (Ok (codes ""))))

abbrev with_digits : Text → Text → Result Text Unshown
with_digits one nine = followed (Ok (codes "-" ++ one))
    (followed (Ok (codes ".")) (followed (Ok (at_least_one (trimmed nine))) (Ok (codes ""))))

zeros : decimal 500000000 ≡ codes "500000000"
zeros =
    one_step 500000000 (omega arith) (omega arith)
    ∙ ap (λ (xs : Text). xs ++ pair 0) (one_step 5000000 (omega arith) (omega arith)
    ∙ ap (λ (xs : Text). xs ++ pair 0) (one_step 50000 (omega arith) (omega arith)
    ∙ ap (λ (xs : Text). xs ++ pair 0) (one_step 500 (omega arith) (omega arith)
    ∙ ap (λ (xs : Text). xs ++ pair 0) (decimal_digit 5 (omega arith)))))

nine : filled Padding.Zero 9 500000000 ≡ codes "500000000"
nine = ap (λ (xs : Text). replicate (9 - length xs) 48 ++ xs) zeros

one : filled Padding.None 1 1 ≡ codes "1"
one = decimal_digit 1 (omega arith)

half_text : texts_of half 500000000 ≡ Ok (codes "-1.5")
half_text = λ i. with_digits (one i) (nine i)

-- the moment agrees with what was read
agrees : (d : Date) (t : Time) (o : UtcOffset) → IsHalfBefore d t o → MomentAgrees stamp_fields d t o
agrees d t o h (part.Date DatePart.Day) = refl
agrees d t o h (part.Time TimePart.Subsecond) = ap (has_digits stamp_fields.subsecond) h.6
agrees d t o h (part.Offset OffsetPart.Minute) = ap (λ (n : ℕ). n / 60 % 60 == 0) h.7
agrees d t o h (part.Offset OffsetPart.Second) = ap (λ (n : ℕ). n % 60 == 0) h.7
agrees d t o h (part.Instant InstantPart.Second) =
    ap (λ (u : UnixTime). stamp_has stamp_fields u InstantPart.Second)
    (instant d t o h)
agrees d t o h _ = refl

in_utc : (o : UtcOffset) → o.seconds ≡ 0 → ShiftHas utc_shift o
in_utc o e = (omega (arith, e), omega (arith, e), omega (arith, e), inl e)

pub stamp_again_example : StampAgainExample
stamp_again_example d t o h = record {
  text = codes "-01.50";
  settles = refl;
  read = refl;
  same_parts = refl;
  moment =
      (record { date = d; time = t; offset = o }, (agrees d t o h, ((counted d t o h, refl), in_utc o h.7)), refl);
  is_of = (refl, refl, refl);
  wrote = (λ i. texts_of (instant d t o h i) (h.6 i)) ∙ half_text;
}
