-- Texts that come from one another, by the cure of one fault after another.
use Rattle.std.specs.Prelude.{ℕ, zero, suc, ◌≡◌, ◌≤◌, List, ◌⊎◌, ⊤}
use Rattle.timefd_parse.specs.Tree.{Text, Tree}
use Rattle.timefd_parse.specs.Faults.{Fault, fault_of}
use Rattle.timefd_language.specs.Grammar.{nesting_limit}
use Rattle.timefd_parse.specs.ParseError.{ParseError}
use Rattle.timefd_parse.specs.ParseError.TheVariants.{Invalid, Memory}
use Rattle.timefd_language.specs.declared.description_version.Language.{Language}
use Rattle.timefd_parse.specs.Language.{FaultIn, SpellsIn}
use Rattle.timefd_lint_diagnosis.specs.declared.diagnostic.Diagnostic.{Diagnostic}
use Rattle.timefd_lint_diagnosis.specs.Diagnoses.{IsDiagnosis, IsOfFault}
use Rattle.timefd_lint_rewrite.specs.declared.cure.Fixes.{Fixes}
use Rattle.timefd_lint_rewrite.specs.declared.fixing.TheConstants.{FIX_LIMIT}
use Rattle.timefd_lint_rewrite.specs.Cures.{IsCured, IsIncurable}

-- The rules of the language assign this fault to the text, and the diagnostic describes it.
pub record IsDiagnosed (language : Language) (text : Text) (f : Fault) (d : Diagnostic) : Type 0
  where
    pub assigned : FaultIn language nesting_limit text f
    pub of_fault : IsOfFault f d
    pub diagnosis : IsDiagnosis language text d

-- A text becomes another by the cure of its fault.
pub record IsMended (language : Language) (fixes : Fixes) (text after : Text) : Type 0 where
  pub fault : Fault
  pub diagnostic : Diagnostic
  pub diagnosed : IsDiagnosed language text fault diagnostic
  pub cured : IsCured language fixes text diagnostic after

-- It becomes another in this many steps.
abbrev pub LeadsTo : Language → Fixes → ℕ → Text → Text → Type 0
LeadsTo language fixes zero text last = last ≡ text
LeadsTo language fixes (suc steps) text last =
    (between : Text) × LeadsTo language fixes steps text between
    × IsMended language fixes between last

-- The answer is accepted, and comes from the text by cures.
pub record IsFixed (language : Language) (fixes : Fixes) (text answer : Text) : Type 0 where
  pub steps : ℕ
  pub within : steps ≤ FIX_LIMIT
  pub chain : LeadsTo language fixes steps text answer
  pub accepted : (list : List Tree) × SpellsIn language nesting_limit answer list

-- The text has this fault, and no fix may be written against it.
pub record IsUnmended (language : Language) (fixes : Fixes) (text : Text) (f : Fault) : Type 0
  where
    pub diagnostic : Diagnostic
    pub diagnosed : IsDiagnosed language text f diagnostic
    pub incurable : IsIncurable language fixes text diagnostic

-- Cures lead from the text to one with this fault: no fix may be written against it, or as many are written
-- as allowed.
pub record IsLeft (language : Language) (fixes : Fixes) (text : Text) (f : Fault) : Type 0 where
  pub steps : ℕ
  pub last : Text
  pub within : steps ≤ FIX_LIMIT
  pub chain : LeadsTo language fixes steps text last
  pub ends : IsUnmended language fixes last f
      ⊎ ((steps ≡ FIX_LIMIT) × FaultIn language nesting_limit last f)

-- An error is a fault of which this holds, or says that memory ran out.

abbrev pub IsUnmendedOf : Language → Fixes → Text → ParseError → Type 0
IsUnmendedOf language fixes text (Invalid f) = IsUnmended language fixes text (fault_of f)
IsUnmendedOf language fixes text (Memory e) = ⊤

abbrev pub IsLeftOf : Language → Fixes → Text → ParseError → Type 0
IsLeftOf language fixes text (Invalid f) = IsLeft language fixes text (fault_of f)
IsLeftOf language fixes text (Memory e) = ⊤
