-- Numbers at the start of a text: the value, and how many bytes it takes.
use Rattle.std.specs.Prelude.{ℕ, ◌≡◌, ◌<◌, ◌≤◌, ◌+◌, ◌-◌, ◌&&◌, ◌==◌, Bool, true, false, nat_le, if◌then◌else◌, [], ◌∷◌, drop, get_or, length, min, take, Option, Some, None}
use Rattle.std.specs.Char.{digit_value, is_ascii_digit}
use Rattle.std.specs.List.{prefix_len}
use Rattle.std.specs.Str.Parse.{digits_value}
use Rattle.timefd_lang_component.specs.Tree.{Text}
use Rattle.timefd_modifier.specs.declared.enums.Padding.{Padding}
use Rattle.timefd_date_moment.specs.declared.fields.fields.Signed.{Signed}
use Rattle.timefd_date_moment.specs.declared.fields.rule.NumberForm.{NumberForm}

-- The value of the first `count` digits, if they are enough.
abbrev pub enough : ℕ → ℕ → Text → Option (ℕ × ℕ)
enough least count text = if nat_le least count then Some (digits_value 10 (take count text), count) else None

-- The value of the digits at the start, as many as there are up to `most`. Fewer than `least` aren't a
-- number.
abbrev pub digits : ℕ → ℕ → Text → Option (ℕ × ℕ)
digits least most text = enough least (min most (prefix_len is_ascii_digit text)) text

-- What was read after `count` bytes.
abbrev pub after : ℕ → Option (ℕ × ℕ) → Option (ℕ × ℕ)
after count None = None
after count (Some r) = Some (r.0, count + r.1)

abbrev pub is_space : ℕ → Bool
is_space b = b == 32

-- Spaces pad a number on the left up to a width, and leave one digit at least. Only a number that isn't
-- padded may have more digits.
abbrev pub after_spaces : ℕ → ℕ → ℕ → Text → Option (ℕ × ℕ)
after_spaces spaces width most text = after spaces (digits (width - spaces)
    (if spaces == 0 then most else width - spaces) (drop spaces text))

-- A number that is padded to a width, or not at all.
abbrev pub padded : Padding → ℕ → ℕ → Text → Option (ℕ × ℕ)
padded Padding.Zero width most text = digits width most text
padded Padding.None width most text = digits 1 most text
padded Padding.Space width most text =
    after_spaces (min (width - 1) (prefix_len is_space text)) width most text

-- The number that was found, if it is in the range.
abbrev pub within : ℕ → ℕ → Option (ℕ × ℕ) → Option (ℕ × ℕ)
within lowest highest None = None
within lowest highest (Some r) =
    if nat_le lowest r.0 && nat_le r.0 highest then Some r else None

-- The sign at the start: whether it is a minus.
abbrev pub sign_in : Text → Option Bool
sign_in [] = None
sign_in (b ∷ bytes) = if b == 45 then Some true else (if b == 43 then Some false else None)

-- The number with its sign.
abbrev pub with_sign : Bool → Option (ℕ × ℕ) → Option (Signed × ℕ)
with_sign is_negative None = None
with_sign is_negative (Some r) = Some (record { is_negative = is_negative; magnitude = r.0 }, r.1)

-- A number may have more digits after a sign than without one.
abbrev pub signed_by : Option Bool → Bool → NumberForm → Text → Option (Signed × ℕ)
signed_by (Some is_negative) mandatory form text =
    with_sign is_negative (after 1
    (within 0 form.greatest (padded form.padding form.width form.most_signed (drop 1 text))))
signed_by None true form text = None
signed_by None false form text = with_sign false
    (within 0 form.greatest (padded form.padding form.width form.most text))

abbrev pub signed : Bool → NumberForm → Text → Option (Signed × ℕ)
signed mandatory form text = signed_by (sign_in text) mandatory form text

-- One digit or one space more: the run that begins at the next position is shorter by one.

abbrev pub IsDigitAt : Text → ℕ → Option ℕ → Type 0
IsDigitAt text at (Some digit) = (at < length text) × (digit ≡ digit_value (get_or text at 0)) × (digit ≤ 9)
    × (prefix_len is_ascii_digit (drop at text) ≡ 1 + prefix_len is_ascii_digit (drop (at + 1) text))
IsDigitAt text at None = prefix_len is_ascii_digit (drop at text) ≡ 0

abbrev pub IsSpaceAt : Text → ℕ → Bool → Type 0
IsSpaceAt text at true = prefix_len is_space (drop at text) ≡ 1 + prefix_len is_space (drop (at + 1) text)
IsSpaceAt text at false = prefix_len is_space (drop at text) ≡ 0
