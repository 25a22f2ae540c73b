-- The parts of a description in order: what a formatter writes of it, with optional parts that are written
-- and the first of alternatives.
use Rattle.std.specs.Prelude.{List}
use Rattle.timefd_lang_component.specs.Tree.{Tree, trees}
use Rattle.timefd_lang_node_list.specs.Item.Meaning.{item_trees}
use Rattle.timefd_lang_node_list.specs.Leaves.{leaves, leaves_all}
use Rattle.timefd_lang_node_list.specs.Views.{view_tree}
use Rattle.timefd_lang_warnings.specs.declared.parts.ReadDescription.{ReadDescription}
use Rattle.timefd_lang_warnings.specs.declared.parts.ReadDescription.TheVariants as description

abbrev pub parts : ReadDescription → List Tree
parts (description.Version3 view) = leaves (view_tree view)
parts (description.Items items) = leaves_all (trees (item_trees items.now))
