use Rattle.std.proofs.Common.{◌≡◌, ◌≤◌, length, map, take}
use Rattle.timefd_lang_component.specs.Tree.{trees}
use Rattle.timefd_lang_node_list.specs.Item.Meaning.{item_tree}
use Rattle.timefd_lang_warnings.specs.Settling.Reached.{reached_all}
use Rattle.timefd_lang_warnings.proofs.settled.items.+items.Given as goal

-- the result depends only on what is left
abbrev pub invariant-before_all-items : goal.invariant-before_all-items
invariant-before_all-items l =
    (l.left ≤ length l.items)
    × (reached_all (trees (map item_tree (take l.left l.items))) l.reached
    ≡ reached_all (trees (map item_tree l.items)) l.fn.known)

abbrev pub decreases-before_all-items : goal.decreases-before_all-items
decreases-before_all-items l = l.left
