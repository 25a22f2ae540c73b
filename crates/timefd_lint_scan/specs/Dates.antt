-- Whether the argument of a `format` may be a date format: other libraries have methods with that name too.
use Rattle.std.specs.Prelude.{ℕ, Bool, true, false, not, ◌&&◌, ◌||◌, ◌==◌, if◌then◌else◌, [], ◌∷◌, codes}
use Rattle.std.specs.List.{list_any}
use Rattle.timefd_lint_scan.specs.Bytes.{Text}

abbrev pub is_one_of : Text → ℕ → Bool
is_one_of bytes b = list_any (λ c. c == b) bytes

-- Letters that mean a part of a date or a time in chrono, and nothing in `printf`.
abbrev pub is_date_letter : ℕ → Bool
is_date_letter b = is_one_of (codes "YyCmbBhHIMSjDTRklPUWVwvrzZ") b

abbrev pub is_flag : ℕ → Bool
is_flag b = is_one_of (codes "-_0#") b

-- the text after a `%` without its flag
abbrev pub after_flag : Text → Text
after_flag [] = []
after_flag (b ∷ bytes) = if is_flag b then bytes else b ∷ bytes

abbrev pub begins_part : Text → Bool
begins_part [] = false
begins_part (b ∷ bytes) = is_date_letter b

-- These may follow a `%` in a date format. Only `printf` has `E`, `i` and `o`.
abbrev pub is_taken : ℕ → Bool
is_taken b = is_one_of (codes "abcdefghjklmnpqrstuvwxyzABCDFGHIJKLMNOPQRSTUVWXYZ%+:") b

-- A date format has no other byte there. At the end of a text a `%` is allowed: it is a directive that isn't
-- finished.
abbrev pub begins_other : Text → Bool
begins_other [] = false
begins_other (b ∷ bytes) = not (is_taken b)

-- A part of a date follows a `%`. The byte after a `%` doesn't begin another directive.
abbrev mutual
  pub has_part : Text → Bool
  has_part [] = false
  has_part (b ∷ bytes) = if b == 37 then has_part_after bytes else has_part bytes

  pub has_part_after : Text → Bool
  has_part_after [] = false
  has_part_after (b ∷ bytes) = if begins_part (after_flag (b ∷ bytes)) then true else has_part bytes

-- Something follows a `%` that a date format doesn't have there.
abbrev mutual
  pub has_other : Text → Bool
  has_other [] = false
  has_other (b ∷ bytes) = if b == 37 then has_other_after bytes else has_other bytes

  pub has_other_after : Text → Bool
  has_other_after [] = false
  has_other_after (b ∷ bytes) = if begins_other (after_flag (b ∷ bytes)) then true else has_other bytes

abbrev pub has_percent : Text → Bool
has_percent text = list_any (λ b. b == 37) text

-- A text may be a date format: it has a `%`, and either a part of a date, or no `%` that a date format can't
-- have.
abbrev pub is_of_dates : Text → Bool
is_of_dates text = has_percent text && (has_part text || not (has_other text))
