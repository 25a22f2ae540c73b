use Rattle.std.proofs.Common.{◌≡◌, [], length, map}
use Rattle.timefd_lang_node_list.specs.Nodes.{Fit, grown_by, part}
use Rattle.timefd_lang_node_list.specs.Leaves.{leaves_in}
use Rattle.timefd_lang_node_list.specs.LeafMeaning.{leaves_left}
use Rattle.timefd_lang_node_list.proofs.leaves.Leaves.split_last.Given as goal

-- the nodes that are left have all leaves
abbrev pub invariant-nodes : goal.invariant-nodes
invariant-nodes l =
    Fit [] (map part l.nodes) × (leaves_left l.self ≡ leaves_in (grown_by [] (map part l.nodes)))

abbrev pub decreases-nodes : goal.decreases-nodes
decreases-nodes l = length l.nodes
