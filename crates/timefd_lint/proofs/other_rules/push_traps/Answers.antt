use Rattle.std.proofs.Common.{rules, arith}
use Rattle.timefd_lint_lsp.proofs.EditorLemmas.EachLemmas.{one_more_at}
use Rattle.timefd_lint.specs.Rules.{IsTrapRule}
use Rattle.timefd_lint.proofs.other_rules.push_traps.Goals as goal

pub loop-trap-preserved : goal.loop-trap-preserved
loop-trap-preserved c =
    one_more_at IsTrapRule c.args.traps.now c.loop-trap.trap-index _ c.args.out.now.items c.loop-trap.out.items
    c.push_trap.new.out.items (first_of (search rules, omega (arith, c.loop-trap-test.true)))
    c.loop-trap.invariant c.in_ok-push_trap.ensures
