-- The tree of a description, and what the description owns of it.
use Rattle.std.specs.Prelude.{Bool, List, ℕ}
use Rattle.timefd_items.specs.declared.format_description_v3.FormatDescriptionV3.{FormatDescriptionV3}
use Rattle.timefd_lang_node_list.specs.NodeTrees as list
use Rattle.timefd_lang_node_list.specs.NodeTrees.{list_owners, list_trees}
use Rattle.timefd_lang_component.specs.Tree.{Tree, pack}

abbrev pub description_tree : FormatDescriptionV3 → Tree
description_tree d = pack (list_trees d.list)

-- for each part, one after another and after its members, whether it is a text of its own
abbrev pub description_owners : FormatDescriptionV3 → List Bool
description_owners d = list_owners d.list

-- the parts that it has memory for but doesn't have
abbrev pub unused_parts : FormatDescriptionV3 → ℕ
unused_parts d = list.room d.list
