use Rattle.std.proofs.Common.{◌≡◌, ◌≤◌, length, map, take}
use Rattle.timefd_lang_component.specs.Tree.{trees}
use Rattle.timefd_lang_node_list.specs.Item.Meaning.{item_tree}
use Rattle.timefd_lang_node_list.specs.Leaves.{leaves_all}
use Rattle.timefd_lang_warnings.specs.Sought.{with_parts}
use Rattle.timefd_lang_warnings.proofs.parts.+parts.Given as goal

-- the items from `left` on are done, and those before it are left
abbrev pub invariant-scan_items-items : goal.invariant-scan_items-items
invariant-scan_items-items l = (l.left ≤ length l.items)
    × (with_parts l.sought (leaves_all (trees (map item_tree (take l.left l.items)))) l.reached
    ≡ with_parts l.sought (leaves_all (trees (map item_tree l.items))) l.fn.scan)

abbrev pub decreases-scan_items-items : goal.decreases-scan_items-items
decreases-scan_items-items l = l.left
