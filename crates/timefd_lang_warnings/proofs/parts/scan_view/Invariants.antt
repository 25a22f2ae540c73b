use Rattle.std.proofs.Common.{◌≡◌, length}
use Rattle.timefd_lang_node_list.specs.Leaves.{leaves}
use Rattle.timefd_lang_node_list.specs.LeafMeaning.{leaves_left}
use Rattle.timefd_lang_node_list.specs.Views.{view_tree}
use Rattle.timefd_lang_warnings.specs.Sought.{start, with_parts}
use Rattle.timefd_lang_warnings.proofs.parts.scan_view.Given as goal

-- the last parts are done, and the first ones are left
abbrev pub invariant-leaves : goal.invariant-leaves
invariant-leaves l =
    with_parts l.sought (leaves_left l.left) l.scan ≡ with_parts l.sought (leaves (view_tree l.view)) start

abbrev pub decreases-leaves : goal.decreases-leaves
decreases-leaves l = length (leaves_left l.left)
