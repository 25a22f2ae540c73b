use Rattle.std.proofs.Common.{◌≡◌, None, length}
use Rattle.timefd_c_nodes.specs.Formatting.Nodes.{node_fault, node_leaves}
use Rattle.timefd_c_nodes.proofs.FormattingLemmas.WriteLemmas.{IsLenTo}
use Rattle.timefd_c_nodes.proofs.formatting.len.text_len.Given as goal

-- the leaves after these are counted, and these remain
abbrev pub invariant-nodes : goal.invariant-nodes
invariant-nodes l =
    (node_fault l.literals l.left ≡ None)
    × IsLenTo l.moment (node_leaves l.literals l.nodes) (node_leaves l.literals l.left) l.len

abbrev pub decreases-nodes : goal.decreases-nodes
decreases-nodes l = length (node_leaves l.literals l.left)
