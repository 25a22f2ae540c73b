use Rattle.timefd_c_nodes.proofs.FormattingLemmas.FlatLemmas.{AreLeaves}
use Rattle.timefd_c_nodes.proofs.formatting.flat.leaves_of.Given as goal

-- the nodes in front are these leaves
abbrev pub invariant-nodes : goal.invariant-nodes
invariant-nodes l = AreLeaves l.literals l.nodes l.at l.parts l.leaves.items
