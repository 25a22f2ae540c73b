use Rattle.std.proofs.Common.{◌≡◌, IfOk, rules}
use Rattle.timefd_parse.specs.Placed.{IsPlaced}
use Rattle.timefd_lint_diagnosis.specs.Diagnoses.{IsDiagnosis}
use Rattle.timefd_parse.specs.Faults.{fault_of}
use Rattle.timefd_parse.specs.Grammar.{nesting_limit}
use Rattle.timefd_parse.specs.Language.{FaultIn}
use Rattle.timefd_web.specs.Objects.{refused_object}
use Rattle.timefd_web.proofs.ReportLemmas.{refused_report}
use Rattle.timefd_web.proofs.report.report_of.Goals as goal

-- src/report.rt:15:1
pub returns-in-Some : goal.returns-in-Some
returns-in-Some c =
    let d = c.in-Some.diagnostic in
    let fault : FaultIn c.args.language nesting_limit c.args.text.now (fault_of d.fault) = search rules in
    let position : IsPlaced c.args.text.now (fault_of d.fault) = search rules in
    let diagnosis : IsDiagnosis c.args.language c.args.text.now d = search rules in
    let said : IfOk c.refused.result (λ object. object.items ≡ refused_object d) = search rules in
    record {
      reports = refused_report c.args.language c.args.moment c.args.text.now c.refused.result d fault position diagnosis said;
    }
