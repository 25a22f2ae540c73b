use Rattle.std.proofs.Common.{◌≡◌, ◌+◌, ◌-◌, map, take, subst, arith}
use Rattle.timefd_lang_component.specs.Tree.{trees}
use Rattle.timefd_lang_node_list.specs.Item.Meaning.{item_tree}
use Rattle.timefd_lang_node_list.specs.Leaves.{leaves_all}
use Rattle.timefd_lang_warnings.specs.Sought.{with_parts}
use Rattle.timefd_lang_warnings.proofs.ScanLemmas.{one_item}
use Rattle.timefd_lang_warnings.proofs.parts.+parts.Goals as goal

pub scan_items-items-preserved : goal.scan_items-items-preserved
scan_items-items-preserved t c =
    let l = c.items in
    let last : l.left ≡ l.left - 1 + 1 = omega (arith, c.items-test.true) in
    let s = c.args.sought in
    let items = c.args.items.now in
    let whole = with_parts s (leaves_all (trees (map item_tree items))) c.args.scan in
    let so_far = subst (λ n. with_parts s (leaves_all (trees (map item_tree (take n items)))) l.reached ≡ whole)
    last l.invariant.1 in (
      omega (arith, l.invariant.0),
      one_item item_tree s items (l.left - 1) c.index-items-left.result
          (omega (arith, l.invariant.0, c.items-test.true)) c.index-items-left.is l.reached
          c.scan_item-reached.result whole so_far c.scan_item-reached.ensures,
    )

pub scan_items-returns : goal.scan_items-returns
scan_items-returns t c =
    let none : c.items.left ≡ 0 = omega (arith, c.items-test.false) in
    let s = c.args.sought in
    let items = c.args.items.now in
    subst (λ n. with_parts s (leaves_all (trees (map item_tree (take n items)))) c.items.reached
    ≡ with_parts s (leaves_all (trees (map item_tree items))) c.args.scan) none c.items.invariant.1
