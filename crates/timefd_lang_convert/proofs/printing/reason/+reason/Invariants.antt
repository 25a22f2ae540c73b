use Rattle.std.proofs.Common.{◌≡◌, ◌+◌, ◌*◌, false}
use Rattle.timefd_lang_component.specs.Tree.{trees}
use Rattle.timefd_lang_node_list.specs.Turns.{turn_trees}
use Rattle.timefd_lang_node_list.specs.Views.{member_trees}
use Rattle.timefd_lang_convert.specs.Printing.Reasons.{members_reason, nested_reason}
use Rattle.timefd_lang_convert.proofs.printing.reason.+reason.Given as goal

-- what is left decides
abbrev pub invariant-members_reason-members : goal.invariant-members_reason-members
invariant-members_reason-members l =
    members_reason l.left l.after_run (trees (turn_trees l.member-iterator))
    ≡ members_reason l.left false (trees (member_trees l.fn.members))

abbrev pub invariant-alternatives_reason-alternatives : goal.invariant-alternatives_reason-alternatives
invariant-alternatives_reason-alternatives l =
    nested_reason l.left (trees (turn_trees l.alternative-iterator))
    ≡ nested_reason l.left (trees (member_trees l.fn.alternatives))

-- each calls those below it, and the last one goes into a nested description
abbrev pub decreases-reason : goal.decreases-reason
decreases-reason l = 7 * l.left + 6

abbrev pub decreases-compound_reason : goal.decreases-compound_reason
decreases-compound_reason l = 7 * l.left + 5

abbrev pub decreases-members_reason : goal.decreases-members_reason
decreases-members_reason l = 7 * l.left + 4

abbrev pub decreases-member_reason : goal.decreases-member_reason
decreases-member_reason l = 7 * l.left + 3

abbrev pub decreases-first_reason : goal.decreases-first_reason
decreases-first_reason l = 7 * l.left + 2

abbrev pub decreases-alternatives_reason : goal.decreases-alternatives_reason
decreases-alternatives_reason l = 7 * l.left + 1

abbrev pub decreases-deeper_reason : goal.decreases-deeper_reason
decreases-deeper_reason l = 7 * l.left
