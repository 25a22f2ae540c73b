use Rattle.std.proofs.Common.{◌≡◌, drop, map}
use Rattle.timefd_lang_component.specs.Tree.{trees}
use Rattle.timefd_lang_node_list.specs.LeafMeaning.{leaf_tree}
use Rattle.timefd_date_moment.specs.Fields.Reads as spec
use Rattle.timefd_date_moment.specs.Fields.Reads.{at, start}
use Rattle.timefd_date_moment.specs.Fields.Short.{fields_with}
use Rattle.timefd_date_moment.proofs.fields.short.numbers_shown.Given as goal

-- what is left decides
abbrev pub invariant-leaves : goal.invariant-leaves
invariant-leaves l =
    spec.read_all (trees (map leaf_tree (drop l.leaf-index l.leaves))) (at l.left (fields_with l.numbers))
    ≡ spec.read_all (trees (map leaf_tree l.leaves)) (start l.fn.text)
