-- What lines are changed to.
use Rattle.std.specs.Prelude.{ℕ, ◌≡◌, List}
use Rattle.timefd_parse.specs.Tree.{Text}
use Rattle.timefd_lang_dialect.specs.declared.dialect.Dialect.{Dialect}
use Rattle.timefd_lang_dialect.specs.declared.reason.Reason.{Reason}
use Rattle.timefd_lang_dialect.specs.Items.{IsSpelledBy}
use Rattle.timefd_lang_dialect.specs.Reading.{Piece, Means, RefusedAt, text_of}
use Rattle.timefd_parse.specs.Faults.{Fault}
use Rattle.timefd_lint_rewrite.specs.declared.line_change.LineChange.{LineChange}
use Rattle.timefd_lint_rewrite.specs.declared.line_change.LineChange.TheVariants.{Own, Other}
use Rattle.timefd_lint_rewrite.specs.Layouts.{IsConverted, IsRefusedFor}

-- The text is that of the pieces that the format means, and spells their items in version 3.
pub record IsInThree (dialect : Dialect) (format text : Text) : Type 0 where
  pub pieces : List Piece
  pub means : Means dialect format pieces
  pub same : text ≡ text_of pieces
  pub same_items : IsSpelledBy dialect format text

-- the text that a line is changed to
abbrev pub IsChanged : LineChange → Text → Text → Type 0
IsChanged (Own layout) text answer = IsConverted layout text answer
IsChanged (Other dialect) text answer = IsInThree dialect text answer

-- The text has a fault in the language that it is converted from, or one is left after mending, or a part of a format of
-- another language has no text of version 3.
abbrev pub IsUnchangeable : LineChange → Text → Type 0
IsUnchangeable (Own layout) text = (f : Fault) × IsRefusedFor layout text f
IsUnchangeable (Other dialect) text = (reason : Reason) × (index : ℕ) × RefusedAt dialect text reason index
