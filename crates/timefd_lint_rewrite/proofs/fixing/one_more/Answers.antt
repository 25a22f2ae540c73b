use Rattle.std.proofs.Common.{refl, rules}
use Rattle.timefd_parse.specs.Faults.{fault_of}
use Rattle.timefd_language.specs.Grammar.{nesting_limit}
use Rattle.timefd_parse.specs.Language.{FaultIn}
use Rattle.timefd_lint_diagnosis.specs.Diagnoses.{IsDiagnosis}
use Rattle.timefd_lint_rewrite.specs.Cures.{IsIncurable}
use Rattle.timefd_lint_rewrite.proofs.MendedLemmas.{unmended}
use Rattle.timefd_lint_rewrite.proofs.fixing.one_more.Goals as goal

pub returns-in-Ok-None-cured-clause-unmended : goal.returns-in-Ok-None-cured-clause-unmended
returns-in-Ok-None-cured-clause-unmended c =
    let d = c.in-Ok-Some.diagnostic in
    let assigned : FaultIn c.args.language nesting_limit c.args.text.now (fault_of d.fault) = search rules in
    let diagnosis : IsDiagnosis c.args.language c.args.text.now d = search rules in
    let incurable : IsIncurable c.args.language c.args.fixes c.args.text.now d = search rules in
    unmended c.args.language c.args.fixes c.args.text.now d (fault_of d.fault) incurable refl assigned diagnosis
