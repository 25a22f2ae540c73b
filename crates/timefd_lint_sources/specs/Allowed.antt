-- What comments allow at a description, and what is left.
use Rattle.std.specs.Prelude.{ℕ, ◌≡◌, ◌+◌, ◌-◌, Bool, true, false, ◌&&◌, if◌then◌else◌, List, [], ◌∷◌, flat_map, length, nat_lt, option_map}
use Rattle.std.specs.Io.Iter.{u64_saturate}
use Rattle.std.specs.declared.alloc.Global.{Global}
use Rattle.std.specs.declared.vec.Vec.{Vec}
use Rattle.timefd_parse.specs.Tree.{Text}
use Rattle.timefd_lint_diagnosis.specs.declared.diagnostic.Diagnostic.{Diagnostic}
use Rattle.timefd_lang_dialect.specs.declared.error.RefusedPart.{RefusedPart}
use Rattle.timefd_lang_dialect.specs.declared.trapping.Found.{Found}
use Rattle.timefd_lang_dialect.specs.Reasons as reasons
use Rattle.timefd_lang_dialect.specs.TrapWords as traps
use Rattle.timefd_parse.specs.Codes as faults
use Rattle.timefd_parse.specs.Faults.{fault_of}
use Rattle.timefd_lint_scan.specs.declared.description.SourceDescription.{SourceDescription}
use Rattle.timefd_lang_warnings.specs.declared.levels.Level.TheVariants.{Allowed, Warned, Denied}
use Rattle.timefd_lang_warnings.specs.declared.levels.Levels.{Levels}
use Rattle.timefd_lang_warnings.specs.declared.warning.Warning.{Warning}
use Rattle.timefd_lang_warnings.specs.Codes.{all, name_of}
use Rattle.timefd_lang_warnings.specs.Levels.{count, with_level}
use Rattle.timefd_lint_sources.specs.declared.left.Left.{Left}
use Rattle.timefd_lint_sources.specs.declared.judgement.TextJudgement.{TextJudgement}
use Rattle.timefd_lint_sources.specs.declared.judgement.TextJudgement.TheVariants.{Accepted, Faulty, Right, Refused}
use Rattle.timefd_lint_sources.specs.declared.reported.Reporting.{Reporting}
use Rattle.timefd_lint_sources.specs.declared.reported.SourceText.{SourceText}
use Rattle.timefd_lint_sources.specs.Allowances.Found.{any_allows, any_covers}
use Rattle.timefd_lint_sources.specs.Judgements.{levels_of}

-- Comments count, and one is about the description.
abbrev pub is_covered : Reporting → SourceText → SourceDescription → Bool
is_covered reporting s d = reporting.allows && any_covers s.allowances.now d.piece.start

-- A comment allows this code of the description.
abbrev pub is_allowed : SourceText → SourceDescription → Text → Bool
is_allowed s d code = any_allows s.text.now s.allowances.now d.piece.start code

-- the levels without a warning, if a comment allows it
abbrev pub level_left : SourceText → SourceDescription → Levels → Warning → Levels
level_left s d found w = if is_allowed s d (name_of w) then with_level found w Allowed else found

abbrev pub levels_left_of : SourceText → SourceDescription → Levels → List Warning → Levels
levels_left_of s d found [] = found
levels_left_of s d found (w ∷ ws) = levels_left_of s d (level_left s d found w) ws

-- the levels without the warnings that a comment allows
abbrev pub levels_left : SourceText → SourceDescription → Levels → Levels
levels_left s d found = levels_left_of s d found all

-- the code that is shown for a fault
abbrev pub code_of : Diagnostic → Text
code_of g = faults.name_of (faults.code_of (fault_of g.fault).kind)

abbrev pub unless_allowed : SourceText → SourceDescription → Diagnostic → List Diagnostic
unless_allowed s d g = if is_allowed s d (code_of g) then [] else g ∷ []

abbrev pub unless_trap : SourceText → SourceDescription → Found → List Found
unless_trap s d f = if is_allowed s d (traps.name f.trap) then [] else f ∷ []

abbrev pub IsRefusalLeft : Bool → RefusedPart → TextJudgement → Type 0
IsRefusalLeft true part left = (none : Vec Found Global) × (left ≡ Right none) × (none.items ≡ [])
IsRefusalLeft false part left = left ≡ Refused part

-- What is left of a judgement: the warnings, faults and traps that no comment allows, and the part that is refused, unless
-- a comment allows that.
abbrev pub IsLeftOf : SourceText → SourceDescription → TextJudgement → TextJudgement → Type 0
IsLeftOf s d (Accepted language found) left = left ≡ Accepted language (option_map (levels_left s d) found)
IsLeftOf s d (Faulty faults) left = (rest : Vec Diagnostic Global) × (left ≡ Faulty rest)
    × (rest.items ≡ flat_map (unless_allowed s d) faults.items)
IsLeftOf s d (Right traps) left = (rest : Vec Found Global) × (left ≡ Right rest)
    × (rest.items ≡ flat_map (unless_trap s d) traps.items)
IsLeftOf s d (Refused part) left = IsRefusalLeft (is_allowed s d (reasons.name part.reason)) part left

-- How many errors a judgement has, and how many other warnings.
abbrev pub errors_in : TextJudgement → ℕ
errors_in (Accepted language found) = count Denied (levels_of found)
errors_in (Faulty faults) = length faults.items
errors_in (Right traps) = 0
errors_in (Refused part) = 1

abbrev pub warnings_in : TextJudgement → ℕ
warnings_in (Accepted language found) = count Warned (levels_of found)
warnings_in (Faulty faults) = 0
warnings_in (Right traps) = length traps.items
warnings_in (Refused part) = 0

abbrev pub count_in : TextJudgement → ℕ
count_in v = u64_saturate (errors_in v + warnings_in v)

-- What is left of so many errors and warnings.
abbrev pub left_of : ℕ → TextJudgement → Left
left_of found left =
    record { is_refused = nat_lt 0 (errors_in left); warnings = warnings_in left; allowed = found - count_in left }

-- One error is allowed, and nothing is left.
abbrev pub all_allowed : Left
all_allowed = record { is_refused = false; warnings = 0; allowed = 1 }
