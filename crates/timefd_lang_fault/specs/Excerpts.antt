-- How much of a text is in a buffer.
use Rattle.std.specs.Prelude.{ℕ, ◌≡◌, ◌<◌, ◌≤◌, ◌++◌, length, take, drop}
use Rattle.std.specs.Str.{IsCharBoundary}
use Rattle.timefd_lang_fault.specs.Faults.{Text}
use Rattle.timefd_lang_fault.specs.declared.excerpt.Excerpt.{Excerpt}

-- The buffer held `before` and holds `after`: the front of the whole text, and after it what it
-- held there.
pub record IsExcerpt (whole before after : Text) (e : Excerpt) : Type 0 where
  pub len : e.len ≡ length whole
  pub front : after ≡ take e.written whole ++ drop e.written before
  -- The front fits, ends between two characters, and no longer front does both.
  pub room : e.written ≤ length before
  pub between : IsCharBoundary whole e.written
  pub most : (i : ℕ) → e.written < i → i ≤ length before → ¬ (IsCharBoundary whole i)
