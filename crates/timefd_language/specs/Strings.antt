-- Items whose literals are strings.
use Rattle.std.specs.Prelude.{◌≡◌, Bool, true, false, List, map, IsTrue}
use Rattle.std.specs.List.{list_all}
use Rattle.std.specs.Coded.{×_prop}
use Rattle.std.proofs.Math.Bool.{Bool-set}
use Rattle.timefd_lang_node_list.specs.declared.item.borrowed_format_item.BorrowedFormatItem.{BorrowedFormatItem}
use Rattle.timefd_lang_node_list.specs.declared.item.borrowed_format_item.BorrowedFormatItem.TheOpen.{BorrowedFormatItem-F}
use Rattle.timefd_lang_node_list.specs.declared.item.borrowed_format_item.BorrowedFormatItem.TheOpen as item
use Rattle.timefd_lang_node_list.specs.declared.item.borrowed_format_item.BorrowedFormatItem.TheFolds.{fold-BorrowedFormatItem}
use Rattle.timefd_lang_node_list.specs.Item.Meaning.{item_trees}
use Rattle.timefd_lang_component.specs.Tree.{Tree}
use Rattle.timefd_language.specs.TreeLists.{lists_equal_once}

abbrev pub all_true : List Bool → Bool
all_true = list_all (λ b. b)

-- one item, with the answer for each inner item instead of that item
abbrev pub strings_step : BorrowedFormatItem-F Bool → Bool
strings_step (item.Literal bytes) = false
strings_step (item.StringLiteral text) = true
strings_step (item.Component c) = true
strings_step (item.Compound members) = all_true members.now
strings_step (item.Optional member) = member.now
strings_step (item.First members) = all_true members.now

-- no literal of the item is one of bytes
abbrev pub is_of_strings : BorrowedFormatItem → Bool
is_of_strings = fold-BorrowedFormatItem Bool strings_step

abbrev pub are_of_strings : List BorrowedFormatItem → Bool
are_of_strings items = all_true (map is_of_strings items)

-- the items are these trees, and none of their literals is one of bytes
abbrev pub AreItems : List BorrowedFormatItem → List Tree → Type 0
AreItems items list = (item_trees items ≡ list) × IsTrue (are_of_strings items)

pub are_items_once : (items : List BorrowedFormatItem) (list : List Tree)
    → IsProp (AreItems items list)
are_items_once items list = ×_prop (lists_equal_once (item_trees items) list) (Bool-set _ _)
