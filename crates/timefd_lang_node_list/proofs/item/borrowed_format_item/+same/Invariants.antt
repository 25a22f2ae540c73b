use Rattle.std.proofs.Common.{◌≡◌, map, drop}
use Rattle.timefd_lang_component.specs.Tree.{trees}
use Rattle.timefd_lang_node_list.specs.Item.Meaning.{item_tree}
use Rattle.timefd_lang_node_list.specs.Item.Equality.{same_trees}
use Rattle.timefd_lang_node_list.proofs.item.borrowed_format_item.+same.Given as goal

-- the items that are left decide
abbrev pub invariant-same_all-items : goal.invariant-same_all-items
invariant-same_all-items l =
    same_trees (trees (map item_tree l.left)) (trees (map item_tree l.right))
    ≡ same_trees (trees (map item_tree (drop l.at l.left)))
    (trees (map item_tree (drop l.at l.right)))
