use Rattle.std.proofs.Common.{length}
use Rattle.timefd_lang_node_list.specs.Leaves.{leaves}
use Rattle.timefd_lang_node_list.specs.LeafMeaning.{leaves_left}
use Rattle.timefd_lang_node_list.specs.Views.{view_tree}
use Rattle.timefd_date_format.proofs.ResolveLemmas.{IsFoundTo}
use Rattle.timefd_date_format.proofs.resolve.written_leaves.Given as goal

-- The leaves after these are found, and these are left.
abbrev pub invariant-leaves : goal.invariant-leaves
invariant-leaves l = IsFoundTo (leaves (view_tree l.view)) (leaves_left l.leaves) l.found.items

abbrev pub decreases-leaves : goal.decreases-leaves
decreases-leaves l = length (leaves_left l.leaves)
