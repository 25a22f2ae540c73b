use Rattle.std.proofs.Common.{◌≡◌, ◌≤◌, ◌+◌, ◌*◌, None}
use Rattle.timefd_lang_component.specs.Reserved.{tree_count, trees_count}
use Rattle.timefd_lang_component.specs.Tree.{trees}
use Rattle.timefd_lang_node_list.specs.Turns.{turn_trees}
use Rattle.timefd_lang_node_list.specs.Views.{member_trees, view_tree}
use Rattle.timefd_date_moment.specs.Fields.Reads as spec
use Rattle.timefd_date_moment.specs.Fields.Reads.{at}
use Rattle.timefd_date_moment.proofs.fields.view.+view.Given as goal

-- what is left decides
abbrev pub invariant-read_all-members : goal.invariant-read_all-members
invariant-read_all-members l =
    (trees_count (trees (turn_trees l.member-iterator))
    ≤ trees_count (trees (member_trees l.fn.members)))
    × (spec.read_all (trees (turn_trees l.member-iterator)) (at l.left l.fields)
    ≡ spec.read_all (trees (member_trees l.fn.members)) (at l.fn.rest l.fn.fields))

-- each alternative begins with the fields from before
abbrev pub invariant-read_first-alternatives : goal.invariant-read_first-alternatives
invariant-read_first-alternatives l =
    (trees_count (trees (turn_trees l.alternative-iterator))
    ≤ trees_count (trees (member_trees l.fn.alternatives)))
    × (l.fields ≡ l.before)
    × (spec.read_first l.first_fault (trees (turn_trees l.alternative-iterator)) (at l.rest l.before)
    ≡ spec.read_first None (trees (member_trees l.fn.alternatives)) (at l.fn.rest l.fn.fields))

abbrev pub decreases-read : goal.decreases-read
decreases-read l = 2 * tree_count (view_tree l.view)

abbrev pub decreases-read_optional : goal.decreases-read_optional
decreases-read_optional l = 2 * tree_count (view_tree l.member) + 1

abbrev pub decreases-read_all : goal.decreases-read_all
decreases-read_all l = 2 * trees_count (trees (member_trees l.members)) + 1

abbrev pub decreases-read_first : goal.decreases-read_first
decreases-read_first l = 2 * trees_count (trees (member_trees l.alternatives)) + 1
