use Rattle.timefd_c_nodes.proofs.FormattingLemmas.ForwardLemmas.{IsRead}
use Rattle.timefd_c_nodes.proofs.formatting.forward.append_nodes.Given as goal

-- the nodes so far are read and written
abbrev pub invariant-nodes : goal.invariant-nodes
invariant-nodes l = IsRead l.moment l.literals l.nodes l.node-index l.count l.fn.room l.room l.at
