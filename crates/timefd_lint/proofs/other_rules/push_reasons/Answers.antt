use Rattle.std.proofs.Common.{rules, arith}
use Rattle.timefd_lint_lsp.proofs.EditorLemmas.EachLemmas.{one_more_at}
use Rattle.timefd_lint.specs.Rules.{IsReasonRule}
use Rattle.timefd_lint.proofs.other_rules.push_reasons.Goals as goal

pub loop-reason-preserved : goal.loop-reason-preserved
loop-reason-preserved c =
    one_more_at IsReasonRule c.args.reasons.now c.loop-reason.reason-index _ c.args.out.now.items c.loop-reason.out.items
    c.push_reason.new.out.items (first_of (search rules, omega (arith, c.loop-reason-test.true)))
    c.loop-reason.invariant c.in_ok-push_reason.ensures
