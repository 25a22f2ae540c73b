use Rattle.std.proofs.Common.{◌≡◌, ◌≤◌, ◌+◌, ◌*◌, ◌++◌, string_bytes}
use Rattle.timefd_lang_component.specs.Reserved.{tree_count, trees_count}
use Rattle.timefd_lang_component.specs.Tree.{trees}
use Rattle.timefd_lang_node_list.specs.Turns.{turn_trees}
use Rattle.timefd_lang_node_list.specs.Views.{member_trees, view_tree}
use Rattle.timefd_lang_convert.specs.Printing.Printed.{printed_all, nested_all}
use Rattle.timefd_lang_convert.proofs.printing.push.+push.Given as goal

-- what is printed so far, and what is printed for the members that are left, is all
abbrev pub invariant-push_all-members : goal.invariant-push_all-members
invariant-push_all-members l =
    (trees_count (trees (turn_trees l.member-iterator))
    ≤ trees_count (trees (member_trees l.fn.members)))
    × (string_bytes l.text ++ printed_all (trees (turn_trees l.member-iterator))
    ≡ string_bytes l.fn.text ++ printed_all (trees (member_trees l.fn.members)))

abbrev pub invariant-push_alternatives-alternatives : goal.invariant-push_alternatives-alternatives
invariant-push_alternatives-alternatives l =
    (trees_count (trees (turn_trees l.alternative-iterator))
    ≤ trees_count (trees (member_trees l.fn.alternatives)))
    × (string_bytes l.text ++ nested_all (trees (turn_trees l.alternative-iterator))
    ≡ string_bytes l.fn.text ++ nested_all (trees (member_trees l.fn.alternatives)))

abbrev pub decreases-push : goal.decreases-push
decreases-push l = 4 * tree_count (view_tree l.view)

abbrev pub decreases-push_all : goal.decreases-push_all
decreases-push_all l = 4 * trees_count (trees (member_trees l.members)) + 1

abbrev pub decreases-push_optional : goal.decreases-push_optional
decreases-push_optional l = 4 * tree_count (view_tree l.member) + 2

abbrev pub decreases-push_first : goal.decreases-push_first
decreases-push_first l = 4 * trees_count (trees (member_trees l.alternatives)) + 3

abbrev pub decreases-push_alternatives : goal.decreases-push_alternatives
decreases-push_alternatives l = 4 * trees_count (trees (member_trees l.alternatives)) + 2

abbrev pub decreases-push_nested : goal.decreases-push_nested
decreases-push_nested l = 4 * tree_count (view_tree l.view) + 1
