-- The tree that an item means.
use Rattle.std.specs.Prelude.{true, List, map}
use Rattle.timefd_lang_node_list.specs.declared.item.borrowed_format_item.BorrowedFormatItem.{BorrowedFormatItem}
use Rattle.timefd_lang_node_list.specs.declared.item.borrowed_format_item.BorrowedFormatItem.TheOpen.{BorrowedFormatItem-F}
use Rattle.timefd_lang_node_list.specs.declared.item.borrowed_format_item.BorrowedFormatItem.TheOpen as item
use Rattle.timefd_lang_node_list.specs.declared.item.borrowed_format_item.BorrowedFormatItem.TheFolds.{fold-BorrowedFormatItem}
use Rattle.timefd_lang_component.specs.Tree.{Tree, component, literal, compound, optional, first, trees}

-- one item, with the tree of each inner item instead of that item
abbrev pub item_step : BorrowedFormatItem-F Tree → Tree
item_step (item.Literal bytes) = literal bytes.now
item_step (item.StringLiteral text) = literal text.now
item_step (item.Component c) = component c
item_step (item.Compound members) = compound (trees members.now)
item_step (item.Optional member) = optional true member.now
item_step (item.First members) = first (trees members.now)

abbrev pub item_tree : BorrowedFormatItem → Tree
item_tree = fold-BorrowedFormatItem Tree item_step

abbrev pub item_trees : List BorrowedFormatItem → List Tree
item_trees = map item_tree
