use Rattle.std.proofs.Common.{◌≡◌, length, true}
use Rattle.timefd_lang_node_list.specs.Leaves.{leaves}
use Rattle.timefd_lang_node_list.specs.LeafMeaning.{leaves_left}
use Rattle.timefd_lang_node_list.specs.Views.{view_tree}
use Rattle.timefd_format.specs.Completing.Given.{with_parts}
use Rattle.timefd_format.proofs.completing.given.is_view_given.Given as goal

-- the last parts are done, and the first ones are left
abbrev pub invariant-leaves : goal.invariant-leaves
invariant-leaves l =
    with_parts l.fields (leaves_left l.left) l.given ≡ with_parts l.fields (leaves (view_tree l.view)) true

abbrev pub decreases-leaves : goal.decreases-leaves
decreases-leaves l = length (leaves_left l.left)
