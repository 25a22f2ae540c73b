use Rattle.std.proofs.Common.{◌≡◌, drop, map}
use Rattle.timefd_lang_component.specs.Tree.{trees}
use Rattle.timefd_lang_node_list.specs.LeafMeaning.{leaf_tree}
use Rattle.timefd_date_moment.specs.Fields.Reads as spec
use Rattle.timefd_date_moment.specs.Fields.Reads.{at}
use Rattle.timefd_date_moment.proofs.fields.leaves.read_all.Given as goal

-- what is left decides
abbrev pub invariant-leaves : goal.invariant-leaves
invariant-leaves l =
    spec.read_all (trees (map leaf_tree (drop l.leaf-index l.leaves))) (at l.left l.fields)
    ≡ spec.read_all (trees (map leaf_tree l.leaves)) (at l.fn.rest l.fn.fields)
