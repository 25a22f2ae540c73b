use Rattle.std.proofs.Common.{length}
use Rattle.timefd_lang_node_list.specs.Leaves.{leaves}
use Rattle.timefd_lang_node_list.specs.LeafMeaning.{leaves_left}
use Rattle.timefd_lang_node_list.specs.Views.{view_tree}
use Rattle.timefd_description.proofs.WritingLemmas.{IsLenTo}
use Rattle.timefd_description.proofs.writing.text_len.Given as goal

-- The leaves after these are counted, and these are left.
abbrev pub invariant-leaves : goal.invariant-leaves
invariant-leaves l = IsLenTo l.moment (leaves (view_tree l.view)) (leaves_left l.left) l.len

abbrev pub decreases-leaves : goal.decreases-leaves
decreases-leaves l = length (leaves_left l.left)
