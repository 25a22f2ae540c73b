-- Notes on formats whose text of version 3 writes the same for some moments alone.
use Rattle.std.specs.Prelude.{ℕ, ◌≡◌, ◌==◌, ◌&&◌, Bool, true, false, not, ◌⊎◌, ◌+◌, List, [], ◌∷◌, ◌++◌, codes, if◌then◌else◌, Option, Some, IsUtf8, IsTrue, IsFalse}
use Rattle.std.specs.Fmt.{decimal}
use Rattle.std.specs.Io.KnownBytes.{IsAtEnd}
use denote.Ref.{Bor}
use Rattle.timefd_parse.specs.Tree.{Text}
use Rattle.timefd_lang_dialect.specs.declared.dialect.Dialect.{Dialect}
use Rattle.timefd_lang_dialect.specs.declared.limits.Limits.{Limits}
use Rattle.timefd_lang_dialect.specs.declared.reason.Reason.{Reason}
use Rattle.timefd_lang_dialect.specs.Limits.{all_limits, limits_from}
use Rattle.timefd_lang_dialect.specs.Reading.{Piece, Means, RefusedAt}
use Rattle.timefd_lint_drawing.specs.Shown.{safe}
use Rattle.timefd_lint_rewrite.specs.declared.line_change.LineChange.{LineChange}
use Rattle.timefd_lint_rewrite.specs.declared.line_change.LineChange.TheVariants.{Own, Other}
use Rattle.timefd_lint_rewrite.specs.Lines.{AreLinesOf, IsNextLine, is_passed_over, without_newline}

abbrev pub from_year : ℕ → Text
from_year year =
    if year == 0 then [] else codes " from the year " ++ (decimal year ++ codes " on")

abbrev pub offsets : Bool → Text
offsets true = codes " for offsets of whole minutes"
offsets false = []

-- a line of the notes: for which moments the text of a line writes the same
abbrev pub noted : Text → ℕ → Text → Text → Text
noted file number years minutes =
    file ++ (codes ":" ++ (decimal number ++ (codes ": version 3 writes the same only"
    ++ (years ++ (minutes ++ codes "\n")))))

abbrev pub note_on : Text → ℕ → Limits → Text
note_on file number limits =
    noted file number (from_year limits.first_year) (offsets limits.whole_minutes)

-- nothing if it does for all moments
abbrev pub note : Text → ℕ → Limits → Text
note file number limits =
    if (limits.first_year == 0) && not limits.whole_minutes then [] else note_on file number limits

-- The note on a format is on the limits of its pieces. There is none on a format that is refused.
abbrev pub AddsTextNote : Dialect → Text → ℕ → Text → Text → Text → Type 0
AddsTextNote dialect file number text before after =
    ((ps : List Piece) × Means dialect text ps × (after ≡ before ++ note file number (limits_from all_limits ps)))
    ⊎ (((reason : Reason) × (index : ℕ) × RefusedAt dialect text reason index) × (after ≡ before))

-- There is no note on a line that is passed over or isn't UTF-8.
abbrev pub AddsNote : Option (Bor Text) → Dialect → Text → ℕ → Text → Text → Text → Type 0
AddsNote comment dialect file number line before after =
    (IsTrue (is_passed_over comment (without_newline line)) × (after ≡ before))
    ⊎ ((¬ IsUtf8 (without_newline line)) × (after ≡ before))
    ⊎ (IsFalse (is_passed_over comment (without_newline line))
    × AddsTextNote dialect file number (without_newline line) before after)

-- The notes on lines, one after another, from this number on.
abbrev pub AreNoted : Option (Bor Text) → Dialect → Text → ℕ → List Text → Text → Text → Type 0
AreNoted comment dialect file number [] before after = after ≡ before
AreNoted comment dialect file number (line ∷ lines) before after =
    (middle : Text) × AddsNote comment dialect file number line before middle
    × AreNoted comment dialect file (number + 1) lines middle after

-- The notes on all lines of a file.
abbrev pub AreNotes : Option (Bor Text) → Dialect → Text → Text → Text → Type 0
AreNotes comment dialect name bytes notes =
    (lines : List Text) × AreLinesOf (Some bytes) lines false
    × AreNoted comment dialect (safe name) 1 lines [] notes

-- Only formats of another language have such notes.
abbrev pub AreNotesFor : LineChange → Option (Bor Text) → Text → Text → Text → Type 0
AreNotesFor (Own layout) comment name bytes notes = notes ≡ []
AreNotesFor (Other dialect) comment name bytes notes = AreNotes comment dialect name bytes notes

-- One more line is read, and the note on it is added. At the end of the bytes nothing is.
abbrev pub IsNextNoted : Option (Bor Text) → Dialect → Text → ℕ → Option Text → Option Text → Text → Text → Bool
    → Type 0
IsNextNoted comment dialect file number bytes rest before after true =
    (line : Text) × IsNextLine bytes line rest × AddsNote comment dialect file number line before after
IsNextNoted comment dialect file number bytes rest before after false = IsAtEnd bytes × (after ≡ before)
