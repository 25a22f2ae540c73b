use Rattle.std.proofs.Common.{rules, arith}
use Rattle.timefd_lint_lsp.proofs.EditorLemmas.EachLemmas.{one_more_at}
use Rattle.timefd_lint.specs.Rules.{IsFaultRule}
use Rattle.timefd_lint.proofs.rules.push_faults.Goals as goal

pub loop-code-preserved : goal.loop-code-preserved
loop-code-preserved c =
    one_more_at IsFaultRule c.args.faults.now c.loop-code.code-index _ c.args.out.now.items c.loop-code.out.items
    c.push_fault.new.out.items (first_of (search rules, omega (arith, c.loop-code-test.true)))
    c.loop-code.invariant c.in_ok-push_fault.ensures
