-- What nodes are as a whole.
use Rattle.std.specs.Prelude.{ℕ, ◌+◌, ◌-◌, nat_lt, if◌then◌else◌, List, [], ◌∷◌, Option, Some, None}
use Rattle.timefd_lang_component.specs.Tree.{Text, Tree, component, literal}
use Rattle.timefd_lang_node_list.specs.Leaves.{leaves_in}
use Rattle.timefd_lang_node_list.specs.Nodes.{Role, arity}
use Rattle.timefd_c_nodes.specs.declared.node.RawNode.{RawNode}
use Rattle.timefd_c_nodes.specs.Decoding.{read_nodes}
use Rattle.timefd_c_nodes.specs.Formatting.Parts.{role_in}
use Rattle.timefd_c_nodes.specs.declared.formatting.leaf.WrittenLeaf.{WrittenLeaf}
use Rattle.timefd_c_nodes.specs.declared.formatting.leaf.WrittenLeaf.TheVariants as leaf

-- How many trees there are after a node, if there are `count` before it. A node that takes more members
-- than that is not part of a description.
abbrev pub count_after : ℕ → Option Role → Option ℕ
count_after count None = None
count_after count (Some r) = if nat_lt count (arity r) then None else Some (count - arity r + 1)

-- the index of this node, or what is found after it
abbrev pub fault_after : ℕ → Option ℕ → (ℕ → Option ℕ) → Option ℕ
fault_after at None rest = Some at
fault_after at (Some count) rest = rest count

-- the index of the first of these nodes that is not part of a description, if the first node has the index
-- `at` and `count` trees are before it
abbrev pub fault_from : Text → ℕ → List RawNode → ℕ → Option ℕ
fault_from literals at [] count = None
fault_from literals at (n ∷ ns) count =
    fault_after at (count_after count (role_in literals n)) (fault_from literals (at + 1) ns)

-- The index of the first node that is not part of a description, if there is one.
abbrev pub node_fault : Text → List RawNode → Option ℕ
node_fault literals nodes = fault_from literals 0 nodes 0

abbrev pub trees_of : Option (List Tree) → List Tree
trees_of None = []
trees_of (Some ts) = ts

-- The trees that nodes read as.
abbrev pub node_trees : Text → List RawNode → List Tree
node_trees literals nodes = trees_of (read_nodes literals nodes)

-- The parts of these trees that a formatter writes.
abbrev pub node_leaves : Text → List RawNode → List Tree
node_leaves literals nodes = leaves_in (node_trees literals nodes)

abbrev pub leaf_tree : WrittenLeaf → Tree
leaf_tree (leaf.Component c) = component c
leaf_tree (leaf.Literal bytes) = literal bytes.now
