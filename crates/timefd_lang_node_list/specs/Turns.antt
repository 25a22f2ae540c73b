-- What the iterators over a view have left.
use Rattle.std.specs.Prelude.{List, ◌++◌}
use Rattle.timefd_lang_node_list.specs.declared.in_turn.InTurn.{InTurn}
use Rattle.timefd_lang_node_list.specs.declared.walk.Walk.{Walk}
use Rattle.timefd_lang_component.specs.Tree.{Tree}
use Rattle.timefd_lang_node_list.specs.Views.{member_trees, view_trees, walk_from}

-- the members that are left
abbrev pub turn_trees : InTurn → List Tree
turn_trees i = member_trees i.members

-- the parts that are left
abbrev pub walk_trees : Walk → List Tree
walk_trees w = walk_from w.nodes.now w.at ++ view_trees w.last
