-- The tree of an item that is a component.
use Rattle.std.proofs.Common.{rules, ◌≡◌}
use Rattle.timefd_lang_node_list.specs.declared.item.borrowed_format_item.BorrowedFormatItem.TheVariants as item
use Rattle.timefd_lang_node_list.specs.declared.item.borrowed_format_item.BorrowedFormatItem.TheFolds.{the_lemmas}
use Rattle.timefd_lang_node_list.specs.Item.Meaning.{item_tree}
use Rattle.timefd_lang_component.specs.declared.component.Component.{Component}
use Rattle.timefd_lang_component.specs.Tree.{component}

pub component_tree : (c : Component) → item_tree (item.Component c) ≡ component c
component_tree c = search (rules, the_lemmas)
