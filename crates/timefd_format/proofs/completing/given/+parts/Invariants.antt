use Rattle.std.proofs.Common.{◌≡◌, ◌≤◌, length, map, take}
use Rattle.timefd_lang_component.specs.Tree.{trees}
use Rattle.timefd_lang_node_list.specs.Item.Meaning.{item_tree}
use Rattle.timefd_lang_node_list.specs.Leaves.{leaves_all}
use Rattle.timefd_format.specs.Completing.Given.{with_parts}
use Rattle.timefd_format.proofs.completing.given.+parts.Given as goal

-- the items from `left` on are done, and those before it are left
abbrev pub invariant-are_items_given-items : goal.invariant-are_items_given-items
invariant-are_items_given-items l = (l.left ≤ length l.items)
    × (with_parts l.fields (leaves_all (trees (map item_tree (take l.left l.items)))) l.given
    ≡ with_parts l.fields (leaves_all (trees (map item_tree l.items))) l.fn.after)

abbrev pub decreases-are_items_given-items : goal.decreases-are_items_given-items
decreases-are_items_given-items l = l.left
