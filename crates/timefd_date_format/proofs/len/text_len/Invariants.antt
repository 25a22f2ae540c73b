use Rattle.std.proofs.Common.{◌≤◌, length, map, drop}
use Rattle.timefd_lang_component.specs.Tree.{trees}
use Rattle.timefd_lang_node_list.specs.LeafMeaning.{leaf_tree}
use Rattle.timefd_date_format.specs.Written.{written_all}
use Rattle.timefd_date_format.specs.Fronts.{IsLen}
use Rattle.timefd_date_format.proofs.len.text_len.Given as goal

-- The leaves after these are counted.
abbrev pub invariant-leaves : goal.invariant-leaves
invariant-leaves l =
    (l.left ≤ length l.leaves) × IsLen (written_all l.moment (trees (map leaf_tree (drop l.left l.leaves)))) l.len

abbrev pub decreases-leaves : goal.decreases-leaves
decreases-leaves l = l.left
