-- The trees of a builder, and the room that it has for more.
use Rattle.std.specs.Prelude.{ℕ, List}
use Rattle.timefd_items.specs.declared.format_description_v3.builder.DescriptionBuilder.{DescriptionBuilder}
use Rattle.timefd_lang_node_list.specs.NodeTrees as list
use Rattle.timefd_lang_node_list.specs.NodeTrees.{list_trees}
use Rattle.timefd_lang_component.specs.Tree.{Tree}

abbrev pub built : DescriptionBuilder → List Tree
built b = list_trees b.list

-- this many more parts can be added, or made from the last ones, without more memory
abbrev pub room : DescriptionBuilder → ℕ
room b = list.room b.list
