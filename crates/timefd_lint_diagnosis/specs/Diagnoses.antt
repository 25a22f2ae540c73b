-- What a diagnostic says about a text.
use Rattle.std.specs.Prelude.{◌≡◌, ◌≤◌, length}
use Rattle.timefd_parse.specs.Tree.{Text}
use Rattle.timefd_lang_fault.specs.Faults.{Fault, fault_of, index}
use Rattle.timefd_language.specs.Grammar.{nesting_limit}
use Rattle.timefd_language.specs.declared.description_version.Language.{Language}
use Rattle.timefd_parse.specs.Language.{FaultIn}
use Rattle.timefd_lint_diagnosis.specs.declared.diagnostic.Diagnostic.{Diagnostic}
use Rattle.timefd_lint_diagnosis.specs.Helps.{IsHelpFor}
use Rattle.timefd_lint_diagnosis.specs.declared.diagnostic.Span.{Span}
use Rattle.timefd_language.specs.Spans.{end_of}

-- The diagnostic is that of this fault.
abbrev pub IsOfFault : Fault → Diagnostic → Type 0
IsOfFault f d = fault_of d.fault ≡ f

-- the bytes are inside the text
abbrev pub IsWithin : Text → Span → Type 0
IsWithin text span = (span.start ≤ span.end) × (span.end ≤ length text)

-- Its span begins at the fault's index and ends with the word or the character there, and its help
-- is for that fault.
pub record IsDiagnosis (language : Language) (text : Text) (d : Diagnostic) : Type 0 where
  pub start : d.span.start ≡ index d.fault
  pub end : d.span.end ≡ end_of language text (fault_of d.fault)
  pub help : IsHelpFor language text (fault_of d.fault) d.help

-- The diagnostic is that of the one fault of a text.
pub record IsDiagnosed (language : Language) (text : Text) (d : Diagnostic) : Type 0 where
  pub fault : FaultIn language nesting_limit text (fault_of d.fault)
  pub diagnosis : IsDiagnosis language text d
