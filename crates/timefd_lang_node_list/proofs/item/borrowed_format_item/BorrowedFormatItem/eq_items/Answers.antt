use Rattle.std.proofs.Common.{rules}
use Rattle.timefd_lang_node_list.specs.Item.Meaning.{item_trees}
use Rattle.timefd_lang_component.specs.Tree.{trees}
use Rattle.timefd_lang_node_list.proofs.ItemLemmas.EqualityLemmas.{held_trees}
use Rattle.timefd_lang_node_list.proofs.item.borrowed_format_item.BorrowedFormatItem.eq_items.Goals as goal

pub returns-in-Ok : goal.returns-in-Ok
returns-in-Ok c = held_trees _ (trees (item_trees c.in-Ok.items.now)) _ _ (search rules)
    (search rules)
