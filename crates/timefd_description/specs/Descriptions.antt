-- The tree of a description, whatever its language.
use Rattle.std.specs.Prelude.{◌≡◌, List}
use Rattle.timefd_description.specs.declared.description.Description.{Description}
use Rattle.timefd_items.specs.Description.{description_tree}
use Rattle.timefd_parse.specs.Tree.{Tree, pack}

abbrev pub tree : Description → Tree
tree d = description_tree d.nodes

-- The description is these items as one tree: a single item as it is, and any other number of items
-- as their compound.
abbrev pub IsOf : List Tree → Description → Type 0
IsOf list d = tree d ≡ pack list
