use Rattle.std.proofs.Common.{◌≤◌, length, map, drop}
use Rattle.timefd_lang_component.specs.Tree.{trees}
use Rattle.timefd_lang_node_list.specs.LeafMeaning.{leaf_tree}
use Rattle.timefd_date_format.specs.Writes.{IsIn, Writes}
use Rattle.timefd_date_format.specs.Written.{written_all}
use Rattle.timefd_date_format.proofs.leaves.write_all.Given as goal

-- The leaves after these are written, and these are left.
abbrev pub invariant-leaves : goal.invariant-leaves
invariant-leaves l =
    (l.left ≤ length l.leaves) × IsIn (length l.buffer) l.at
    × Writes (written_all l.moment (trees (map leaf_tree (drop l.left l.leaves)))) l.fn.buffer
    l.fn.cursor l.buffer l.at

abbrev pub decreases-leaves : goal.decreases-leaves
decreases-leaves l = l.left
