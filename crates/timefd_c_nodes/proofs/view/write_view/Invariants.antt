use Rattle.timefd_lang_node_list.specs.Turns.{walk_trees}
use Rattle.timefd_lang_node_list.specs.Views.{view_tree, walked}
use Rattle.timefd_c_nodes.proofs.WithinLemmas.{Part}
use Rattle.timefd_c_nodes.proofs.view.write_view.Given as goal

-- the remaining parts of the walk are still to be written
abbrev pub invariant-parts : goal.invariant-parts
invariant-parts l = Part (walked (view_tree l.fn.view)) (walk_trees l.part-iterator) l.fn.from l.at
    l.fn.nodes l.nodes l.fn.literals l.literals
