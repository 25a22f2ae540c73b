use Rattle.std.proofs.Common.{◌≡◌, ◌++◌, drop, string_bytes}
use Rattle.timefd_lang_component.specs.Tree.{trees}
use Rattle.timefd_lang_convert.specs.Leaves.{AreLeafItems}
use Rattle.timefd_lang_node_list.specs.Item.Meaning.{item_trees}
use Rattle.timefd_lang_convert.specs.Printing.Printed.{printed_all}
use Rattle.timefd_lang_convert.proofs.item.push_members.Given as goal

-- what is printed so far and the members that are left give the text of all members
abbrev pub invariant-members : goal.invariant-members
invariant-members l =
    AreLeafItems (drop l.at l.members)
    × (string_bytes l.text ++ printed_all (trees (item_trees (drop l.at l.members)))
    ≡ string_bytes l.fn.text ++ printed_all (trees (item_trees l.members)))
