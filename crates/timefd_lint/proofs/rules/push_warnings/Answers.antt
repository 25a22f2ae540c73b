use Rattle.std.proofs.Common.{rules, arith}
use Rattle.timefd_lint_lsp.proofs.EditorLemmas.EachLemmas.{one_more_at}
use Rattle.timefd_lint.specs.Rules.{IsWarningRule}
use Rattle.timefd_lint.proofs.rules.push_warnings.Goals as goal

pub loop-warning-preserved : goal.loop-warning-preserved
loop-warning-preserved c =
    one_more_at IsWarningRule c.args.warnings.now c.loop-warning.warning-index _ c.args.out.now.items c.loop-warning.out.items
    c.push_warning.new.out.items (first_of (search rules, omega (arith, c.loop-warning-test.true)))
    c.loop-warning.invariant c.in_ok-push_warning.ensures
