use Rattle.std.proofs.Common.{length}
use Rattle.timefd_lang_node_list.specs.Leaves.{leaves}
use Rattle.timefd_lang_node_list.specs.LeafMeaning.{leaves_left}
use Rattle.timefd_lang_node_list.specs.Views.{view_tree}
use Rattle.timefd_date_format.proofs.LeafLemmas.{IsWrittenTo}
use Rattle.timefd_date_format.proofs.view.write_view.Given as goal

-- The leaves after these are written, and these are left.
abbrev pub invariant-leaves : goal.invariant-leaves
invariant-leaves l = IsWrittenTo l.moment (leaves (view_tree l.view)) (leaves_left l.leaves) l.fn.buffer
    l.buffer l.at

abbrev pub decreases-leaves : goal.decreases-leaves
decreases-leaves l = length (leaves_left l.leaves)
