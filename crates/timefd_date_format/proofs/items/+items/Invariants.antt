use Rattle.std.proofs.Common.{◌≤◌, length, map, drop}
use Rattle.timefd_lang_component.specs.Tree.{trees}
use Rattle.timefd_lang_node_list.specs.Item.Meaning.{item_tree}
use Rattle.timefd_date_format.specs.Writes.{IsIn, Writes}
use Rattle.timefd_date_format.specs.Written.{written_all}
use Rattle.timefd_date_format.proofs.items.+items.Given as goal

-- The items after these are written, and these are left.
abbrev pub invariant-write_all-items : goal.invariant-write_all-items
invariant-write_all-items l =
    (l.left ≤ length l.items) × IsIn (length l.buffer) l.at
    × Writes (written_all l.moment (trees (map item_tree (drop l.left l.items)))) l.fn.buffer
    l.fn.cursor l.buffer l.at

abbrev pub decreases-write_all-items : goal.decreases-write_all-items
decreases-write_all-items l = l.left
