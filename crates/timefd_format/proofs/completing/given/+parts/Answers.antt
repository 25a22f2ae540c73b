use Rattle.std.proofs.Common.{◌≡◌, ◌+◌, ◌-◌, map, take, subst, arith}
use Rattle.timefd_lang_component.specs.Tree.{trees}
use Rattle.timefd_lang_node_list.specs.Item.Meaning.{item_tree}
use Rattle.timefd_lang_node_list.specs.Leaves.{leaves_all}
use Rattle.timefd_format.specs.Completing.Given.{with_parts}
use Rattle.timefd_format.proofs.CompletingLemmas.GivenLemmas.{one_item}
use Rattle.timefd_format.proofs.completing.given.+parts.Goals as goal

pub are_items_given-items-preserved : goal.are_items_given-items-preserved
are_items_given-items-preserved t c =
    let l = c.items in
    let last : l.left ≡ l.left - 1 + 1 = omega (arith, c.items-test.true) in
    let f = c.args.fields.now in
    let items = c.args.items.now in
    let whole = with_parts f (leaves_all (trees (map item_tree items))) c.args.after in
    let so_far = subst (λ n. with_parts f (leaves_all (trees (map item_tree (take n items)))) l.given ≡ whole)
    last l.invariant.1 in (
      omega (arith, l.invariant.0),
      one_item item_tree f items (l.left - 1) c.index-items-left.result
          (omega (arith, l.invariant.0, c.items-test.true)) c.index-items-left.is l.given
          c.is_item_given-given.result whole so_far c.is_item_given-given.ensures,
    )

pub are_items_given-returns : goal.are_items_given-returns
are_items_given-returns t c =
    let none : c.items.left ≡ 0 = omega (arith, c.items-test.false) in
    let f = c.args.fields.now in
    let items = c.args.items.now in
    subst (λ n. with_parts f (leaves_all (trees (map item_tree (take n items)))) c.items.given
    ≡ with_parts f (leaves_all (trees (map item_tree items))) c.args.after) none c.items.invariant.1
