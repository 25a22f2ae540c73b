-- What is wrong with a text where it stands.
use Rattle.std.specs.Prelude.{◌≡◌, Bool, true, false, List, [], ◌∷◌, Option, Some, None, flat_map, if◌then◌else◌, is_some, option_map}
use Rattle.timefd_parse.specs.Tree.{Text, Tree}
use Rattle.timefd_lang_dialect.specs.declared.dialect.Dialect.{Dialect}
use Rattle.timefd_lang_dialect.specs.declared.trapping.Found.{Found}
use Rattle.timefd_lang_dialect.specs.Traps.{AreTraps}
use Rattle.timefd_lang_warnings.specs.declared.levels.Level.TheVariants.{Allowed}
use Rattle.timefd_lang_warnings.specs.declared.levels.Levels.{Levels}
use Rattle.timefd_lang_warnings.specs.Levels.{all_at}
use Rattle.timefd_language.specs.Grammar.{nesting_limit}
use Rattle.timefd_language.specs.declared.description_version.Language.{Language}
use Rattle.timefd_lint_diagnosis.specs.declared.diagnostic.Diagnostic.{Diagnostic}
use Rattle.timefd_lint_diagnosis.specs.Further.{AreDiagnosed}
use Rattle.timefd_lint_scan.specs.declared.description.SourceDescription.{SourceDescription}
use Rattle.timefd_lint_scan.specs.declared.known.Items.{Items}
use Rattle.timefd_lint_scan.specs.declared.known.Items.TheVariants.{Taken, Refused as RefusedItems}
use Rattle.timefd_lint_warnings.specs.Found.{found_in}
use Rattle.timefd_lint_sources.specs.declared.reported.Finder.{Finder}
use Rattle.timefd_lint_sources.specs.declared.reported.Finder.TheVariants.{Rust, Keys}
use Rattle.timefd_lint_sources.specs.declared.judgement.RefusedParts.{RefusedParts}
use Rattle.timefd_lint_sources.specs.declared.judgement.RefusedParts.TheVariants.{Unwritable, Unknown}
use Rattle.timefd_lint_sources.specs.declared.judgement.TextPlace.{TextPlace}
use Rattle.timefd_lint_sources.specs.declared.judgement.TextPlace.TheVariants.{Own, Other}
use Rattle.timefd_lint_sources.specs.declared.judgement.TextJudgement.{TextJudgement}
use Rattle.timefd_lint_sources.specs.declared.judgement.TextJudgement.TheVariants.{Accepted, Faulty, Right, Refused}
use Rattle.timefd_lint_sources.specs.Items.{is_of_item}
use Rattle.timefd_lint_sources.specs.Judged.{language_in, other_of}
use Rattle.timefd_lint_sources.specs.Search.{IsRefusedFirst, IsRight}
use Rattle.timefd_parse.specs.Language.{SpellsIn}

abbrev pub refused_parts : Finder → RefusedParts
refused_parts (Rust calls) = Unknown
refused_parts (Keys format names) = Unwritable

abbrev pub place_in : Option Dialect → Finder → SourceDescription → TextPlace
place_in None finder d = Own (language_in d) d.items
place_in (Some dialect) finder d = Other dialect (refused_parts finder)

-- where a description of a source stands
abbrev pub place_of : Finder → SourceDescription → TextPlace
place_of finder d = place_in (other_of d.dialect) finder d

-- If the place takes items, faults that only `parse` finds aren't reported.
abbrev pub is_left_out : Items → Diagnostic → Bool
is_left_out RefusedItems g = false
is_left_out Taken g = is_of_item g.code

abbrev pub unless_item : Items → Diagnostic → List Diagnostic
unless_item items g = if is_left_out items g then [] else g ∷ []

-- the faults of a text in a place that takes these items: its first one, and its further ones
abbrev pub AreFaultsOf : Language → Items → Text → List Diagnostic → Type 0
AreFaultsOf language items text faults = (g : Diagnostic) × (further : List Diagnostic)
    × AreDiagnosed language text g further × (faults ≡ g ∷ flat_map (unless_item items) further)

-- the warnings of what a text spells, if they are looked for
abbrev pub found_if : Option Levels → Language → List Tree → Option Levels
found_if levels language list = option_map (λ asked. found_in language asked list) levels

-- the levels of warnings that were looked for, or else of none
abbrev pub levels_of : Option Levels → Levels
levels_of None = all_at Allowed
levels_of (Some levels) = levels

abbrev pub IsAcceptedBy : Language → Option Levels → Text → Option Levels → Type 0
IsAcceptedBy language levels text found = (list : List Tree) × SpellsIn language nesting_limit text list
    × (found ≡ found_if levels language list)

-- all traps of a format, in order, if they are looked for
abbrev pub AreTrapsIf : Bool → Dialect → Text → List Found → Type 0
AreTrapsIf false dialect text found = found ≡ []
AreTrapsIf true dialect text found = AreTraps dialect text found

-- A text of a language of `time` spells a list or has a fault. A format of another language or library is right where it
-- stands, or else it has a first part that is refused there.
abbrev pub IsJudgement : TextPlace → Option Levels → Text → TextJudgement → Type 0
IsJudgement (Own language items) levels text (Accepted by found) = (by ≡ language) × IsAcceptedBy language levels text found
IsJudgement (Own language items) levels text (Faulty faults) = AreFaultsOf language items text faults.items
IsJudgement (Own language items) levels text (Right traps) = ⊥
IsJudgement (Own language items) levels text (Refused part) = ⊥
IsJudgement (Other dialect parts) levels text (Accepted by found) = ⊥
IsJudgement (Other dialect parts) levels text (Faulty faults) = ⊥
IsJudgement (Other dialect parts) levels text (Right traps) =
    IsRight parts dialect text × AreTrapsIf (is_some levels) dialect text traps.items
IsJudgement (Other dialect parts) levels text (Refused part) = IsRefusedFirst parts dialect text part
