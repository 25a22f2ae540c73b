-- Descriptions that have to be changed manually, and the notes on them.
use Rattle.std.specs.Prelude.{ℕ, ◌≡◌, ◌⊎◌, ◌++◌, Bool, true, false, codes, List, [], ◌∷◌, Option, Some, None, IsUtf8}
use Rattle.std.specs.Fmt.{decimal}
use Rattle.std.specs.List.{list_any}
use Rattle.timefd_parse.specs.Tree.{Text}
use Rattle.timefd_lint_drawing.specs.Positions.{column, line_number}
use Rattle.timefd_lint_drawing.specs.Shown.{safe}
use Rattle.timefd_parse.specs.Faults.{Fault}
use Rattle.timefd_parse.specs.DescriptionVersion.TheVariants as versions
use Rattle.timefd_lint_rewrite.specs.declared.layout.Layout.{Layout}
use Rattle.timefd_lint_rewrite.specs.Layouts.{IsRefusedFor}
use Rattle.timefd_lint_scan.specs.declared.description.SourceDescription.{SourceDescription}
use Rattle.timefd_lint_scan.specs.declared.own_call.OwnCall.{OwnCall}
use Rattle.timefd_lint_scan.specs.DocLooks.{AreDescriptionsOf}
use Rattle.timefd_lint_sources.specs.Judged.{text_of}
use Rattle.timefd_lint_sources.specs.Rewriting.Changes.{layout_of}
use Rattle.timefd_lint_sources.specs.Rewriting.Written.{Becoming, IsLaidOutBy}
use Rattle.timefd_lint_sources.specs.declared.rewriting.change.Change.{Change}
use Rattle.timefd_lint_sources.specs.declared.rewriting.change.Change.TheVariants.{Mended, Least, Normal}
use Rattle.timefd_lint_sources.specs.declared.rewriting.outcome.Outcome.{Outcome}
use Rattle.timefd_lint_sources.specs.declared.rewriting.outcome.Outcome.TheVariants.{PassedOver, Same, Rewritten, ByHand, NotALiteral, WithItems, Refused, NotText}
use Rattle.timefd_lint.specs.Manual.Literals.{IsLiteralOf}
use Rattle.timefd_lint.specs.Manual.Reasons.{reason, with_items}
pub mod Calls
pub mod Literals
pub mod Reasons

-- the version that descriptions are converted to, if they are
abbrev pub version_of : Change → Option Text
version_of (Mended fixes) = None
version_of (Least versions.One) = Some (codes "1")
version_of (Least versions.Two) = Some (codes "2")
version_of (Least versions.Three) = Some (codes "3")
version_of Normal = Some (codes "3")

abbrev pub wants_hand : Outcome → Bool
wants_hand PassedOver = false
wants_hand Same = false
wants_hand Rewritten = false
wants_hand ByHand = true
wants_hand NotALiteral = true
wants_hand WithItems = true
wants_hand Refused = false
wants_hand NotText = false

-- a position in a file, as `FILE:LINE:COLUMN`
abbrev pub place : Text → ℕ → ℕ → Text
place file line column = file ++ (codes ":" ++ (decimal line ++ (codes ":" ++ decimal column)))

-- where a literal begins
abbrev pub position : Text → Text → SourceDescription → Text
position name source d =
    place (safe name) (line_number 1 source d.piece.start) (column source d.piece.start)

-- a line of the notes
abbrev pub noted : Text → Text → Text
noted position why = position ++ (codes ": change manually: " ++ (why ++ codes "\n"))

-- the line that says where a description is, and why it stays
abbrev pub note : Text → Text → SourceDescription → Text → Text
note name source d why = noted (position name source d) why

-- No layout is for the description, it isn't UTF-8, or its language refuses it.
abbrev pub BecomesNothing : Change → SourceDescription → Type 0
BecomesNothing change d = (layout_of change d.dialect (text_of d) ≡ None) ⊎ ((¬ IsUtf8 (text_of d))
    ⊎ ((layout : Layout) × IsLaidOutBy change d layout × ((f : Fault) × IsRefusedFor layout (text_of d) f)))

-- The note says why the description stays, and the literal that it would become. A description that would become no
-- text has no note.
abbrev pub AddsReason : Change → Text → Text → Text → SourceDescription → Text → Text → Type 0
AddsReason change version name source d before after = ((new : Text) × Becoming change d new
    × ((literal : Text) × IsLiteralOf source d new literal
    × (after ≡ before ++ note name source d (reason version source d (safe literal)))))
    ⊎ (BecomesNothing change d × (after ≡ before))

-- There is a note on what has to be changed manually alone.
abbrev pub AddsNote : Change → Text → Text → Text → SourceDescription → Outcome → Text → Text → Type 0
AddsNote change version name source d PassedOver before after = after ≡ before
AddsNote change version name source d Same before after = after ≡ before
AddsNote change version name source d Rewritten before after = after ≡ before
AddsNote change version name source d ByHand before after = AddsReason change version name source d before after
AddsNote change version name source d NotALiteral before after = AddsReason change version name source d before after
AddsNote change version name source d WithItems before after =
    after ≡ before ++ note name source d (with_items version)
AddsNote change version name source d Refused before after = after ≡ before
AddsNote change version name source d NotText before after = after ≡ before

-- The notes on descriptions with these outcomes, one after another.
abbrev pub AreNotesOn : Change → Text → Text → Text → List SourceDescription → List Outcome → Text → Text → Type 0
AreNotesOn change version name source [] outcomes before after = after ≡ before
AreNotesOn change version name source (d ∷ ds) [] before after = after ≡ before
AreNotesOn change version name source (d ∷ ds) (o ∷ os) before after = (middle : Text)
    × AddsNote change version name source d o before middle
    × AreNotesOn change version name source ds os middle after

-- The notes on all descriptions of a source.
abbrev pub AreNotesIn : Change → Text → Text → Text → List OwnCall → List Outcome → Text → Type 0
AreNotesIn change version name source own outcomes notes = (ds : List SourceDescription) × AreDescriptionsOf source own ds
    × AreNotesOn change version name source ds outcomes [] notes

-- There are notes if some description wants to be changed manually.
abbrev pub AreNotesIf : Bool → Change → Text → Text → Text → List OwnCall → List Outcome → Text → Type 0
AreNotesIf false change version name source own outcomes notes = notes ≡ []
AreNotesIf true change version name source own outcomes notes = AreNotesIn change version name source own outcomes notes

abbrev pub AreNotesTo : Option Text → Change → Text → Text → List OwnCall → List Outcome → Text → Type 0
AreNotesTo None change name source own outcomes notes = notes ≡ []
AreNotesTo (Some version) change name source own outcomes notes =
    AreNotesIf (list_any wants_hand outcomes) change version name source own outcomes notes

-- The notes on the descriptions of a source, with these calls of its project, that have these outcomes. There is none if nothing is
-- converted.
abbrev pub AreNotes : Change → Text → Text → List OwnCall → List Outcome → Text → Type 0
AreNotes change name source own outcomes notes = AreNotesTo (version_of change) change name source own outcomes notes
