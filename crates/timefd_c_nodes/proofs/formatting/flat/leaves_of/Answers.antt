use Rattle.timefd_c_nodes.proofs.FormattingLemmas.FlatLemmas.{one_more}
use Rattle.timefd_c_nodes.proofs.formatting.flat.leaves_of.Goals as goal

pub nodes-preserved : goal.nodes-preserved
nodes-preserved c =
    one_more c.args.literals.now c.args.nodes.now c.nodes.at c.nodes.parts _ _ c.nodes.leaves.items _
    c.nodes-test.true c.nodes.invariant c.in_ok-parts.ensures
