use Rattle.std.proofs.Common.{◌≡◌, None, length}
use Rattle.timefd_c_nodes.specs.Formatting.Nodes.{node_fault, node_leaves}
use Rattle.timefd_c_nodes.proofs.formatting.leaf.split_last.Given as goal

-- the remaining nodes have all leaves
abbrev pub invariant-nodes : goal.invariant-nodes
invariant-nodes l =
    (node_fault l.literals l.left ≡ None) × (node_leaves l.literals l.nodes ≡ node_leaves l.literals l.left)

abbrev pub decreases-nodes : goal.decreases-nodes
decreases-nodes l = length l.left
