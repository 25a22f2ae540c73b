-- What is left to be written.
use Rattle.std.specs.Prelude.{List, [], map}
use Rattle.timefd_lang_component.specs.Tree.{Tree, component, literal}
use Rattle.timefd_lang_node_list.specs.declared.leaves.Leaves.{Leaves}
use Rattle.timefd_lang_node_list.specs.declared.leaves.Leaf.{Leaf}
use Rattle.timefd_lang_node_list.specs.declared.leaves.Leaf.TheVariants as leaf
use Rattle.timefd_lang_node_list.specs.Nodes.{part, grown_by}
use Rattle.timefd_lang_node_list.specs.Leaves.{leaves_in}

abbrev pub leaf_tree : Leaf → Tree
leaf_tree (leaf.Component c) = component c
leaf_tree (leaf.Literal text) = literal text.now

abbrev pub leaves_left : Leaves → List Tree
leaves_left l = leaves_in (grown_by [] (map part l.nodes.now))
