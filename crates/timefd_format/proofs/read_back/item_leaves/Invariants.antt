use Rattle.std.proofs.Common.{◌≡◌, map, take}
use Rattle.timefd_lang_node_list.specs.Item.Meaning.{item_trees}
use Rattle.timefd_lang_node_list.specs.LeafMeaning.{leaf_tree}
use Rattle.timefd_format.proofs.read_back.item_leaves.Given as goal

-- The leaves of the items so far.
abbrev pub invariant-items : goal.invariant-items
invariant-items l = item_trees (take l.item-index l.items) ≡ map leaf_tree l.leaves.items
