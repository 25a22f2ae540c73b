-- How the result of a call relates to what was to be written.
use Rattle.std.specs.Prelude.{ℕ, ◌≡◌, ◌+◌, ◌<◌, ◌++◌, length, take, Result, Ok, Err}
use Rattle.timefd_lang_component.specs.Tree.{Text}
use Rattle.timefd_date_format.specs.declared.field.Unshown.{Unshown}
use Rattle.timefd_date_format.specs.declared.write.FormatError.{FormatError}
use Rattle.timefd_date_format.specs.declared.write.FormatError.TheVariants as fails

-- The text is the end of the buffer, from the returned position on, and what was in front of it is as it was.
-- An error reports that the text has no room, or which component shows nothing.
abbrev pub IsOutcome : Result Text Unshown → Text → Text → Result ℕ FormatError → Type 0
IsOutcome (Ok text) old new (Ok at) =
    (at + length text ≡ length old) × (new ≡ take at old ++ text)
IsOutcome (Ok text) old new (Err fails.Room) = length old < length text
IsOutcome (Ok text) old new (Err (fails.Unshown u)) = ⊥
IsOutcome (Err v) old new (Ok at) = ⊥
IsOutcome (Err v) old new (Err fails.Room) = ⊥
IsOutcome (Err v) old new (Err (fails.Unshown u)) = u ≡ v
