use Rattle.std.proofs.Common.{◌≡◌, [], map, take}
use Rattle.timefd_items.specs.Meaning.{inner_tree}
use Rattle.timefd_lang_node_list.specs.Nodes.{grown_by, part}
use Rattle.timefd_items.proofs.format_description_v3.inner_trees.all_trees.Given as goal

-- the trees are those of the nodes before this one
abbrev pub invariant-nodes : goal.invariant-nodes
invariant-nodes l = map inner_tree l.trees.items ≡ grown_by [] (map part (take l.at l.nodes))
