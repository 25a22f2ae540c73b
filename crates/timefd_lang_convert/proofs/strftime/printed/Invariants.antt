use Rattle.std.proofs.Common.{◌≡◌, ◌++◌, drop, string_bytes}
use Rattle.timefd_lang_component.specs.Tree.{trees}
use Rattle.timefd_lang_convert.specs.Leaves.{AreShallowItems}
use Rattle.timefd_lang_node_list.specs.Item.Meaning.{item_trees}
use Rattle.timefd_lang_convert.specs.Printing.Printed.{printed_all}
use Rattle.timefd_lang_convert.proofs.strftime.printed.Given as goal

-- what is printed so far and the items that are left give the text of all items
abbrev pub invariant-items : goal.invariant-items
invariant-items l =
    AreShallowItems (drop l.at l.items)
    × (string_bytes l.answer ++ printed_all (trees (item_trees (drop l.at l.items)))
    ≡ printed_all (trees (item_trees l.items)))
