use Rattle.std.proofs.Common.{rules, ◌≡◌, ◌≤◌, ◌∙◌, refl, true, length, slice_index_or, add-one}
use Rattle.std.proofs.Math.Seq.{drop-cons}
use Rattle.std.proofs.lemmas.List.{drop_all}
use Rattle.timefd_lang_node_list.specs.Item.Meaning.{item_tree}
use Rattle.timefd_lang_node_list.specs.Item.Equality.{same_tree}
use Rattle.timefd_lang_node_list.proofs.ItemLemmas.TreeLemmas.{same_trees-lengths, same_trees-drop}
use Rattle.timefd_lang_node_list.proofs.item.borrowed_format_item.+same.Goals as goal

pub same_all-returns-then-left-right : goal.same_all-returns-then-left-right
same_all-returns-then-left-right t c = search (rules, same_trees-lengths)

pub same_all-items-init : goal.same_all-items-init
same_all-items-init t c = search rules

pub same_all-returns-then-not-same : goal.same_all-returns-then-not-same
same_all-returns-then-not-same t c = search (rules, same_trees-lengths, drop-cons)

pub same_all-items-preserved : goal.same_all-items-preserved
same_all-items-preserved t c =
    let alike : same_tree (item_tree
    (slice_index_or c.args.left.now c.items.at c.index-left-at.result))
    (item_tree (slice_index_or c.args.right.now c.items.at c.index-right-at.result)) ≡ true =
    rw (← c.index-left-at.is, ← c.index-right-at.is) (search rules) in
    rw (add-one c.items.at) (c.items.invariant ∙ same_trees-drop _ _ _ _ _ c.items-test.true
    c.if-left-right.false alike)

pub same_all-returns : goal.same_all-returns
same_all-returns t c =
    let far : length c.args.right.now ≤ c.items.at =
    rw (← c.if-left-right.false) c.items-test.false in
    rw (
      c.items.invariant,
      drop_all c.items.at c.args.left.now c.items-test.false,
      drop_all c.items.at c.args.right.now far,
    ) refl
