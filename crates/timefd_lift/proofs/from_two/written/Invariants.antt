use Rattle.std.proofs.Common.{◌≡◌, ◌++◌, drop, string_bytes}
use Rattle.timefd_lang_node_list.specs.Item.Meaning.{item_trees}
use Rattle.timefd_lift.specs.Plain.{ArePlainItems}
use Rattle.timefd_lift.specs.Written.{written}
use Rattle.timefd_lift.proofs.from_two.written.Given as goal

-- what is written so far, followed by what the items that are left give, is what is written for all
-- items
abbrev pub invariant-items : goal.invariant-items
invariant-items l =
    ArePlainItems (drop l.at l.items)
    × (string_bytes l.answer ++ written (item_trees (drop l.at l.items)) ≡ written
    (item_trees l.items))
