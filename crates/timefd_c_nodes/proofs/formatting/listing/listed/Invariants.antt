use Rattle.std.proofs.Common.{◌≡◌, ◌≤◌, length, take}
use Rattle.timefd_c_nodes.specs.Formatting.Nodes.{node_trees}
use Rattle.timefd_lang_node_list.specs.NodeTrees.{list_trees}
use Rattle.timefd_c_nodes.proofs.formatting.listing.listed.Given as goal

-- the nodes in front are listed
abbrev pub invariant-nodes : goal.invariant-nodes
invariant-nodes l =
    (list_trees l.list ≡ node_trees l.literals (take l.at l.nodes)) × (l.count ≡ length (list_trees l.list))
    × (l.count ≤ l.at)
