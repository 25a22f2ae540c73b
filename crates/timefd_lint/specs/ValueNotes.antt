-- Notes on values of keys that are rewritten.
use Rattle.std.specs.Prelude.{ℕ, ◌≡◌, Bool, true, false, List, [], ◌∷◌, ◌++◌, codes, if◌then◌else◌, Option, None, Some, IsUtf8, ◌⊎◌}
use Rattle.std.specs.Fmt.{decimal}
use Rattle.timefd_parse.specs.Tree.{Text}
use Rattle.timefd_lint_drawing.specs.Positions.{column, line_number}
use Rattle.timefd_lint_drawing.specs.Shown.{safe}
use Rattle.timefd_lint_rewrite.specs.declared.line_change.LineChange.{LineChange}
use Rattle.timefd_lint_rewrite.specs.declared.line_change.LineChange.TheVariants.{Own, Other}
use Rattle.timefd_lint_scan.specs.declared.description.SourceDescription.{SourceDescription}
use Rattle.timefd_lint_sources.specs.Judged.{text_of}
use Rattle.timefd_lint_sources.specs.Rewriting.Values.{value_change}
use Rattle.timefd_lint_sources.specs.declared.rewriting.change.Change.{Change}
use Rattle.timefd_lint_sources.specs.declared.rewriting.outcome.Outcome.{Outcome}
use Rattle.timefd_lint_sources.specs.declared.rewriting.outcome.Outcome.TheVariants.{PassedOver, Same, Rewritten, Refused, WithItems, NotText, NotALiteral, ByHand}
use Rattle.timefd_lint.specs.Limited.{AddsTextNote}

abbrev pub is_unwritable : Outcome → Bool
is_unwritable PassedOver = false
is_unwritable Same = false
is_unwritable Rewritten = false
is_unwritable Refused = false
is_unwritable WithItems = false
is_unwritable NotText = false
is_unwritable NotALiteral = true
is_unwritable ByHand = false

-- where a value begins, and that no string can hold its new text
abbrev pub note : Text → Text → ℕ → Text
note file source start =
    file ++ (codes ":" ++ (decimal (line_number 1 source start) ++ (codes ":" ++ (decimal (column source start)
    ++ codes ": change manually: no string can hold its new text\n"))))

abbrev pub note_if : Outcome → Text → Text → ℕ → Text
note_if outcome file source start = if is_unwritable outcome then note file source start else []

abbrev pub unwritable_in : Text → Text → List SourceDescription → List Outcome → Text
unwritable_in file source [] outcomes = []
unwritable_in file source (d ∷ ds) [] = []
unwritable_in file source (d ∷ ds) (o ∷ os) =
    note_if o file source d.piece.start ++ unwritable_in file source ds os

-- the notes on the values of a file whose new texts no string can hold, in order
abbrev pub unwritable : Text → Text → List SourceDescription → List Outcome → Text
unwritable file source ds os = unwritable_in (safe file) source ds os

-- The note is on a format of another language, if the value is one; with the line in which the value begins.
abbrev pub AddsLimitsBy : Option LineChange → Text → Text → SourceDescription → Text → Text → Type 0
AddsLimitsBy None file source d before after = after ≡ before
AddsLimitsBy (Some (Own layout)) file source d before after = after ≡ before
AddsLimitsBy (Some (Other dialect)) file source d before after =
    (IsUtf8 (text_of d)
    × AddsTextNote dialect file (line_number 1 source d.piece.start) (text_of d) before after)
    ⊎ ((¬ IsUtf8 (text_of d)) × (after ≡ before))

abbrev pub AddsLimits : Change → Text → Text → SourceDescription → Text → Text → Type 0
AddsLimits change file source d before after =
    AddsLimitsBy (value_change change d.dialect) file source d before after

-- the notes on values, one after another
abbrev pub AreLimitsIn : Change → Text → Text → List SourceDescription → Text → Text → Type 0
AreLimitsIn change file source [] before after = after ≡ before
AreLimitsIn change file source (d ∷ ds) before after =
    (middle : Text) × AddsLimits change file source d before middle × AreLimitsIn change file source ds middle after

-- the notes on the values of a file
abbrev pub AreLimits : Change → Text → Text → List SourceDescription → Text → Text → Type 0
AreLimits change file source ds before after = AreLimitsIn change (safe file) source ds before after
