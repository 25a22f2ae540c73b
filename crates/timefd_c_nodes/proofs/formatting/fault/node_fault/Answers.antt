use Rattle.std.proofs.Common.{◌∙◌, ◌+◌, ◌≤◌, sym, arith}
use Rattle.timefd_c_nodes.proofs.FormattingLemmas.CutLemmas.{fault_step, one_more_at_most}
use Rattle.timefd_c_nodes.proofs.formatting.fault.node_fault.Goals as goal

pub nodes-preserved : goal.nodes-preserved
nodes-preserved c =
    let most : c.in-Some.after ≤ c.nodes.count + 1 =
    one_more_at_most _ c.in-Some.after _ (sym c.count_after.ensures ∙ c.in-Some.is) in (
      omega (arith, c.nodes.invariant.0, most),
      fault_step _ _ c.nodes.at _ _ _ _ c.nodes-test.true (sym c.count_after.ensures ∙ c.in-Some.is) c.nodes.invariant.1,
    )
