use Rattle.std.proofs.Common.{◌≡◌, ◌++◌, map}
use Rattle.timefd_lang_node_list.specs.LeafMeaning.{leaf_tree}
use Rattle.timefd_lang_node_list.specs.Turns.{turn_trees}
use Rattle.timefd_lang_node_list.specs.Views.{member_trees}
use Rattle.timefd_date_moment.proofs.fields.leaves.member_leaves.Given as goal

-- The leaves that were found, and the members that are left.
abbrev pub invariant-members : goal.invariant-members
invariant-members l =
    member_trees l.fn.members ≡ map leaf_tree l.leaves.items ++ turn_trees l.member-iterator
