-- One step of mending, and a text whose fault has no allowed fix.
use Rattle.std.proofs.Common.{◌≡◌, refl, subst, sym}
use Rattle.timefd_parse.specs.Tree.{Text}
use Rattle.timefd_parse.specs.Faults.{Fault, fault_of}
use Rattle.timefd_language.specs.Grammar.{nesting_limit}
use Rattle.timefd_language.specs.declared.description_version.Language.{Language}
use Rattle.timefd_parse.specs.Language.{FaultIn}
use Rattle.timefd_lint_diagnosis.specs.declared.diagnostic.Diagnostic.{Diagnostic}
use Rattle.timefd_lint_diagnosis.specs.Diagnoses.{IsDiagnosis}
use Rattle.timefd_lint_rewrite.specs.declared.cure.Fixes.{Fixes}
use Rattle.timefd_lint_rewrite.specs.Cures.{IsCured, IsIncurable}
use Rattle.timefd_lint_rewrite.specs.Chains.{IsMended, IsUnmended}

pub mended : (language : Language) (fixes : Fixes) (text after : Text) (d : Diagnostic)
    → FaultIn language nesting_limit text (fault_of d.fault) → IsDiagnosis language text d
    → IsCured language fixes text d after → IsMended language fixes text after
mended language fixes text after d assigned diagnosis cured = record {
  fault = fault_of d.fault;
  diagnostic = d;
  diagnosed = record { assigned = assigned; of_fault = refl; diagnosis = diagnosis };
  cured = cured;
}

pub unmended : (language : Language) (fixes : Fixes) (text : Text) (d : Diagnostic) (f : Fault)
    → IsIncurable language fixes text d → f ≡ fault_of d.fault → FaultIn language nesting_limit text (fault_of d.fault)
    → IsDiagnosis language text d → IsUnmended language fixes text f
unmended language fixes text d f incurable same assigned diagnosis = record {
  diagnostic = d;
  diagnosed = record {
    assigned = subst (λ (g : Fault). FaultIn language nesting_limit text g) (sym same) assigned;
    of_fault = sym same;
    diagnosis = diagnosis;
  };
  incurable = incurable;
}
