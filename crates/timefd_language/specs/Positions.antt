-- Where faults are reported.
use Rattle.std.specs.Prelude.{ℕ, ◌≤◌, length, IsUtf8}
use Rattle.std.specs.Str.{IsCharBoundary}
use Rattle.timefd_language.specs.declared.description_version.DescriptionVersion.{DescriptionVersion}
use Rattle.timefd_lang_component.specs.Tree.{Text}
use Rattle.timefd_lang_fault.specs.Faults.{Fault}
use Rattle.timefd_language.specs.Broken.{FaultOf}
use Rattle.timefd_language.specs.Strftime.{StrftimeFaultOf}

-- The index of a fault is in its text, or at its end.
abbrev pub PlacedWithin : Type 0
PlacedWithin = (v : DescriptionVersion) (limit : ℕ) (text : Text) (f : Fault)
    → FaultOf v limit text f → f.index ≤ length text

abbrev pub StrftimePlacedWithin : Type 0
StrftimePlacedWithin = (text : Text) (f : Fault) → StrftimeFaultOf text f → f.index ≤ length text

-- The index of a fault is between two characters of its text.
abbrev pub PlacedBetween : Type 0
PlacedBetween = (v : DescriptionVersion) (limit : ℕ) (text : Text) (f : Fault) → IsUtf8 text
    → FaultOf v limit text f → IsCharBoundary text f.index

abbrev pub StrftimePlacedBetween : Type 0
StrftimePlacedBetween = (text : Text) (f : Fault) → IsUtf8 text → StrftimeFaultOf text f
    → IsCharBoundary text f.index
