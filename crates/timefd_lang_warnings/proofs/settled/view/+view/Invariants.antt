use Rattle.std.proofs.Common.{◌≡◌, ◌≤◌, ◌+◌, ◌*◌}
use Rattle.timefd_lang_component.specs.Reserved.{tree_count, trees_count}
use Rattle.timefd_lang_component.specs.Tree.{trees}
use Rattle.timefd_lang_node_list.specs.Views.{member_trees, view_tree}
use Rattle.timefd_lang_warnings.specs.Settling.Reached.{reached_all}
use Rattle.timefd_lang_warnings.proofs.settled.view.+view.Given as goal

-- the result depends only on what is left
abbrev pub invariant-before_all-members : goal.invariant-before_all-members
invariant-before_all-members l =
    (trees_count (trees (member_trees l.left)) ≤ trees_count (trees (member_trees l.fn.members)))
    × (reached_all (trees (member_trees l.left)) l.reached
    ≡ reached_all (trees (member_trees l.fn.members)) l.fn.known)

abbrev pub decreases-before_all-members : goal.decreases-before_all-members
decreases-before_all-members l = trees_count (trees (member_trees l.left))

abbrev pub decreases-before : goal.decreases-before
decreases-before l = 2 * tree_count (view_tree l.view)

abbrev pub decreases-before_optional : goal.decreases-before_optional
decreases-before_optional l = 2 * tree_count (view_tree l.member) + 1

abbrev pub decreases-before_all : goal.decreases-before_all
decreases-before_all l = 2 * trees_count (trees (member_trees l.members)) + 1

abbrev pub decreases-before_first : goal.decreases-before_first
decreases-before_first l = 2 * trees_count (trees (member_trees l.alternatives)) + 1
