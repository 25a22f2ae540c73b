use Rattle.std.proofs.Common.{rules, ◌≡◌, ◌∙◌, ◌+◌, Some, None, sym, arith}
use Rattle.timefd_lang_component.specs.Reserved.{tree_count, trees_count}
use Rattle.timefd_lang_component.specs.Tree.{trees}
use Rattle.timefd_lang_node_list.specs.Views.{member_trees, view_tree}
use Rattle.timefd_lang_warnings.specs.Settling.Reached.{reached}
use Rattle.timefd_lang_warnings.proofs.SettledLemmas.ReachedLemmas.{count_last, no_more, one_more, some_parts}
use Rattle.timefd_lang_warnings.proofs.settled.view.+view.Goals as goal

pub before_all-before-requires : goal.before_all-before-requires
before_all-before-requires t c =
    let count : trees_count (trees (member_trees c.members.left))
    ≡ trees_count (trees (member_trees c.in-Some.front)) + tree_count (view_tree c.in-Some.last) =
    count_last (member_trees c.members.left) (member_trees c.in-Some.front) (view_tree c.in-Some.last) c.in-Some.ensures in
    search rules

pub before_all-returns-in_err-reached : goal.before_all-returns-in_err-reached
before_all-returns-in_err-reached t c =
    let none : reached (view_tree c.in-Some.last) c.members.reached ≡ None =
    sym c.before-in-Some.ensures ∙ c.in_err-reached.was in
    let answer : c.from_residual.result ≡ None = search rules in
    answer
    ∙ sym (no_more (member_trees c.members.left) (member_trees c.in-Some.front) (view_tree c.in-Some.last) c.members.reached c.in-Some.ensures none)
    ∙ c.members.invariant.1

pub before_all-members-smaller : goal.before_all-members-smaller
before_all-members-smaller t c =
    let count : trees_count (trees (member_trees c.members.left))
    ≡ trees_count (trees (member_trees c.in-Some.front)) + tree_count (view_tree c.in-Some.last) =
    count_last (member_trees c.members.left) (member_trees c.in-Some.front) (view_tree c.in-Some.last) c.in-Some.ensures in
    let some = some_parts (view_tree c.in-Some.last) in
    omega (arith, count, some)

pub before_all-members-preserved : goal.before_all-members-preserved
before_all-members-preserved t c =
    let front = member_trees c.in-Some.front in
    let last = view_tree c.in-Some.last in
    let there : reached last c.members.reached ≡ Some c.in_ok-reached.reached =
    sym c.before-in-Some.ensures ∙ c.in_ok-reached.was in (
      omega (arith, c.members.invariant.0, count_last (member_trees c.members.left) front last c.in-Some.ensures),
      one_more (member_trees c.members.left) front last c.members.reached c.in_ok-reached.reached
          c.in-Some.ensures there ∙ c.members.invariant.1,
    )
