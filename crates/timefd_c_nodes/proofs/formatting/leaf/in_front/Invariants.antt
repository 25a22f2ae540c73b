use Rattle.std.proofs.Common.{◌≡◌, ◌≤◌, None, length}
use Rattle.timefd_lang_node_list.specs.Nodes.{before}
use Rattle.timefd_c_nodes.specs.Formatting.Nodes.{node_fault, node_trees}
use Rattle.timefd_c_nodes.proofs.formatting.leaf.in_front.Given as goal

-- the wanted trees are in front of the last `left` ones, which are still to be skipped
abbrev pub invariant-nodes : goal.invariant-nodes
invariant-nodes l =
    (node_fault l.literals l.front ≡ None) × (l.left ≤ length (node_trees l.literals l.front))
    × (length l.front ≤ length l.nodes)
    × (before l.count (node_trees l.literals l.nodes) ≡ before l.left (node_trees l.literals l.front))

abbrev pub decreases-nodes : goal.decreases-nodes
decreases-nodes l = length l.front
