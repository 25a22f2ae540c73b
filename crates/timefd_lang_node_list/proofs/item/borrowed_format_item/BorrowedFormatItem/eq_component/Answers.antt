use Rattle.std.proofs.Common.{rules}
use Rattle.timefd_lang_node_list.proofs.ItemLemmas.EqualityLemmas.{held_component}
use Rattle.timefd_lang_node_list.proofs.item.borrowed_format_item.BorrowedFormatItem.eq_component.Goals as goal

pub returns-in-Ok : goal.returns-in-Ok
returns-in-Ok c = held_component _ c.in-Ok.component _ _ (search rules) (search rules)
