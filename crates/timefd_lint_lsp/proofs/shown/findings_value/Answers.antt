use Rattle.std.proofs.Common.{◌∙◌, rules, arith}
use Rattle.serde_json.proofs.Views.{view-Array}
use Rattle.timefd_lint_lsp.specs.Shown as spec
use Rattle.timefd_lint_lsp.proofs.ShownLemmas.{at_last, one_more}
use Rattle.timefd_lint_lsp.proofs.shown.findings_value.Goals as goal

pub loop-finding-preserved : goal.loop-finding-preserved
loop-finding-preserved c =
    one_more spec.finding_data c.args.findings.now c.loop-finding.finding-index c.finding-item.result c.finding-item.result
    c.in_ok-finding_value.field-0 c.loop-finding.values.items c.push.new.self.items
    (first_of (search rules, omega (arith, c.loop-finding-test.true)))
    c.finding-item.is c.in_ok-finding_value.ensures c.in_ok-push.ensures.items c.loop-finding.invariant

pub returns : goal.returns
returns c =
    view-Array c.loop-finding.values
    ∙ at_last spec.finding_data c.args.findings.now c.loop-finding.finding-index c.loop-finding.values.items
    (first_of (search rules, omega (arith, c.loop-finding-test.false))) c.loop-finding.invariant
