-- Lines that are counted on from an earlier position.
use Rattle.std.specs.Prelude.{ℕ, ◌≡◌, ◌≤◌, length, take}
use Rattle.timefd_lang_component.specs.Tree.{Text}
use Rattle.timefd_lint_drawing.specs.declared.counter.Counter.{Counter}
use Rattle.timefd_lint_drawing.specs.Positions.{line_after}

-- The lines of a text that begins in line `first` are counted up to an index of it.
pub record IsCounted (first : ℕ) (text : Text) (c : Counter) : Type 0 where
  pub within : c.at ≤ length text
  pub line : c.line ≡ line_after first (take c.at text)
