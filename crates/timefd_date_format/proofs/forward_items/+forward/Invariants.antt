use Rattle.std.proofs.Common.{◌≤◌, ◌-◌, length}
use Rattle.timefd_lang_node_list.specs.Item.Meaning.{item_tree}
use Rattle.timefd_date_format.proofs.ForwardLemmas.{IsSoFar}
use Rattle.timefd_date_format.proofs.forward_items.+forward.Given as goal

-- The items that are left follow what is appended.
abbrev pub invariant-append_items-items : goal.invariant-append_items-items
invariant-append_items-items l =
    (l.index ≤ length l.items) × IsSoFar item_tree l.moment l.items l.index l.fn.room l.fn.from l.room l.at

abbrev pub decreases-append_items-items : goal.decreases-append_items-items
decreases-append_items-items l = length l.items - l.index
