use Rattle.std.proofs.Common.{refl}
use Rattle.timefd_c_nodes.proofs.FormattingLemmas.ForwardLemmas.{one_read}
use Rattle.timefd_c_nodes.proofs.formatting.forward.append_nodes.Goals as goal

pub nodes-preserved : goal.nodes-preserved
nodes-preserved c =
    one_read c.args.moment.now c.args.literals.now c.args.nodes.now c.nodes.node-index c.nodes.count _ _
    c.args.room.now c.nodes.room c.append_node.new.room c.nodes.at c.in_ok-reached.reached c.nodes-test.true refl
    c.nodes.invariant c.in_ok-reached.ensures
