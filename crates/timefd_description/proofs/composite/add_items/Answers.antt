use Rattle.std.proofs.Common.{IsTrue, subst, sym}
use Rattle.timefd_lang_node_list.specs.Item.Meaning.{item_tree}
use Rattle.timefd_language.specs.Strings.{is_of_strings}
use Rattle.timefd_description.proofs.CompositeLemmas.{leaf_at, string_at}
use Rattle.timefd_description.proofs.composite.add_items.Goals as goal
use Rattle.timefd_description.specs.Modern.{is_leaf}

pub add_item-requires-clause-leaf : goal.add_item-requires-clause-leaf
add_item-requires-clause-leaf c =
    subst (λ x. IsTrue (is_leaf (item_tree x))) (sym c.item-item.is)
    (leaf_at c.args.items.now c.items.item-index c.item-item.result c.items-test.true c.requires.leaves)

pub add_item-requires-clause-string : goal.add_item-requires-clause-string
add_item-requires-clause-string c =
    subst (λ x. IsTrue (is_of_strings x)) (sym c.item-item.is)
    (string_at c.args.items.now c.items.item-index c.item-item.result c.items-test.true c.requires.strings)
