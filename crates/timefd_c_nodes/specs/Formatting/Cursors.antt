-- What is written in front of a position in a buffer.
use Rattle.std.specs.Prelude.{ℕ, ◌<◌, length, Option, Some, None, Result, IfOk}
use Rattle.timefd_lang_component.specs.Tree.{Text}
use Rattle.timefd_date_format.specs.declared.cursor.WriteCursor.TheVariants as cursor
use Rattle.timefd_date_format.specs.declared.field.Unshown.{Unshown}
use Rattle.timefd_date_format.specs.Writes.{Writes}

-- The text is written before the position and begins at the index, if there is one. Otherwise there was no
-- room, or something shows nothing.
abbrev pub TriesToWrite : Result Text Unshown → Text → ℕ → Text → Option ℕ → Type 0
TriesToWrite x old end new (Some at) = Writes x old (cursor.At end) new (cursor.At at)
TriesToWrite x old end new None = IfOk x (λ text. end < length text)
