-- Moments named by their seconds of Unix time.
use Rattle.std.specs.Prelude.{ℕ, ℤ, pos, ◌≡◌, ◌*◌, [], ◌∷◌, nat_eq, int_lt, if◌then◌else◌, Option, Some, None, Result, Ok, Err, IsFalse, FitsSigned, unsigned_abs}
use Rattle.std.specs.Int.{w64}
use Rattle.std.specs.Str.Parse.{IsNumeral, signed_digits_value, without_leading_sign}
use denote.Ref.{Bor}
use Rattle.timefd_lang_component.specs.Tree.{Text}
use Rattle.timefd_date_moment.specs.declared.moment.Moment.{Moment}
use Rattle.timefd_date_moment.specs.declared.unix_time.UnixTime.{UnixTime}
use Rattle.timefd_date_moment.specs.Instants.{IsAt, is_within}
use Rattle.timefd_format.specs.declared.moment.MomentError.{MomentError}
use Rattle.timefd_format.specs.declared.moment.MomentError.TheVariants as fails

abbrev pub text_of : Option (Bor Text) → Option Text
text_of None = None
text_of (Some text) = Some text.now

-- what follows the `@` at the start of a word
abbrev pub after_at : Text → Option Text
after_at [] = None
after_at (byte ∷ rest) = if nat_eq byte 64 then Some rest else None

-- decimal digits, with or without a sign, of a number that fits 64 bits
abbrev pub IsNumber : Text → Type 0
IsNumber text =
    IsNumeral 10 (without_leading_sign text) × FitsSigned w64 (signed_digits_value 10 text)

-- the instant this many seconds after 1970 began in UTC, or before it if the number is negative
abbrev pub unix_time : ℤ → UnixTime
unix_time seconds = record {
  is_negative = int_lt seconds (pos 0);
  nanoseconds = unsigned_abs seconds * 1000000000;
}

abbrev pub unix_time_of : Text → UnixTime
unix_time_of text = unix_time (signed_digits_value 10 text)

abbrev pub IsUnixTime : Text → Option UnixTime → Type 0
IsUnixTime text None = ¬ (IsNumber text)
IsUnixTime text (Some u) = IsNumber text × (u ≡ unix_time_of text)

-- The moment in UTC at these seconds. It fails only for text that isn't a number, or for a year
-- outside of -999,999 to 999,999.
abbrev pub IsAtSeconds : Text → Result Moment MomentError → Type 0
IsAtSeconds text (Ok m) = IsNumber text × IsAt m (unix_time_of text)
IsAtSeconds text (Err e) =
    (e ≡ fails.Seconds) × (IsNumber text → IsFalse (is_within (unix_time_of text)))
