use Rattle.std.proofs.Common.{◌≡◌, ◌≤◌, drop}
use Rattle.timefd_c_nodes.specs.Formatting.Nodes.{fault_from, node_fault}
use Rattle.timefd_c_nodes.proofs.formatting.fault.node_fault.Given as goal

-- there are `count` trees, and the remaining nodes decide
abbrev pub invariant-nodes : goal.invariant-nodes
invariant-nodes l =
    (l.count ≤ l.at) × (fault_from l.literals l.at (drop l.at l.nodes) l.count ≡ node_fault l.literals l.nodes)
