use Rattle.std.proofs.Common.{rules, ◌≡◌, ◌∙◌, ◌<◌, ◌-◌, Some, None, map, take, sym, arith}
use Rattle.timefd_lang_node_list.specs.Item.Meaning.{item_tree}
use Rattle.timefd_lang_warnings.specs.Settling.Reached.{reached}
use Rattle.timefd_lang_warnings.proofs.SettledLemmas.ReachedLemmas.{cut, no_more, one_more}
use Rattle.timefd_lang_warnings.proofs.settled.items.+items.Goals as goal

pub before_all-returns-in_err-reached : goal.before_all-returns-in_err-reached
before_all-returns-in_err-reached t c =
    let items = c.args.items.now in
    let item = c.index-items-left.result in
    let some : 0 < c.items.left = omega (arith, c.items-test.true) in
    let none : reached (item_tree item) c.items.reached ≡ None =
    sym c.before-in-items.ensures ∙ c.in_err-reached.was in
    let answer : c.from_residual.result ≡ None = search rules in
    answer
    ∙ sym (no_more (map item_tree (take c.items.left items)) (map item_tree (take (c.items.left - 1) items)) (item_tree item)
    c.items.reached (cut item_tree items c.items.left item some c.items.invariant.0 c.index-items-left.is) none)
    ∙ c.items.invariant.1

pub before_all-items-preserved : goal.before_all-items-preserved
before_all-items-preserved t c =
    let items = c.args.items.now in
    let item = c.index-items-left.result in
    let some : 0 < c.items.left = omega (arith, c.items-test.true) in
    let there : reached (item_tree item) c.items.reached ≡ Some c.in_ok-reached.reached =
    sym c.before-in-items.ensures ∙ c.in_ok-reached.was in (
      omega (arith, c.items.invariant.0),
      one_more (map item_tree (take c.items.left items)) (map item_tree (take (c.items.left - 1) items)) (item_tree item)
          c.items.reached c.in_ok-reached.reached
          (cut item_tree items c.items.left item some c.items.invariant.0 c.index-items-left.is) there ∙ c.items.invariant.1,
    )
