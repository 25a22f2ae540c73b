-- What is appended to a text in a buffer.
use Rattle.std.specs.Prelude.{ℕ, ◌≡◌, ◌+◌, ◌++◌, length, take, Option, Some, None, Result, Ok, Err}
use Rattle.timefd_date_format.specs.declared.field.Unshown.{Unshown}
use Rattle.timefd_lang_component.specs.Tree.{Text}

-- The text follows what was in front of `at`, and ends at `end`. Nothing is promised about what follows it.
pub record IsAppended (text old : Text) (at : ℕ) (new : Text) (end : ℕ) : Type 0 where
  pub ends : end ≡ at + length text
  pub same : length new ≡ length old
  pub front : take end new ≡ take at old ++ text

-- What is in front of `at` is as it was.
pub record IsKept (old : Text) (at : ℕ) (new : Text) : Type 0 where
  pub same : length new ≡ length old
  pub front : take at new ≡ take at old

-- If an end is returned, the text was appended and ends there. If none is, only what is in front is promised
-- to be as it was.
abbrev pub TriesToAppend : Result Text Unshown → Text → ℕ → Text → Option ℕ → Type 0
TriesToAppend x old at new None = IsKept old at new
TriesToAppend (Ok text) old at new (Some end) = IsAppended text old at new end
TriesToAppend (Err u) old at new (Some end) = ⊥
