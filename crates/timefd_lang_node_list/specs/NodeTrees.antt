-- The trees that a list of nodes is, and how it grows.
use Rattle.std.specs.Prelude.{Bool, ℕ, ◌≡◌, ◌+◌, ◌-◌, ◌≤◌, List, [], ◌++◌, map, vec_len, vec_capacity}
use Rattle.timefd_lang_node_list.specs.declared.node_list.NodeList.{NodeList}
use Rattle.timefd_lang_node_list.specs.Nodes.{Part, part, grown_by}
use Rattle.timefd_lang_node_list.specs.Owners.{owns_text}
use Rattle.timefd_lang_component.specs.Reserved.{trees_count}
use Rattle.timefd_lang_component.specs.Tree.{Tree, trees}

abbrev pub list_parts : NodeList → List Part
list_parts l = map part l.nodes.items

abbrev pub list_trees : NodeList → List Tree
list_trees l = grown_by [] (list_parts l)

-- which of its nodes own their text
abbrev pub list_owners : NodeList → List Bool
list_owners l = map owns_text l.nodes.items

abbrev pub node_count : NodeList → ℕ
node_count l = vec_len l.nodes

-- for how many more nodes there is room
abbrev pub room : NodeList → ℕ
room l = vec_capacity l.nodes - vec_len l.nodes

-- there is room for this many more nodes
abbrev pub HasRoom : NodeList → ℕ → Type 0
HasRoom l count = vec_len l.nodes + count ≤ vec_capacity l.nodes

-- these trees were added after the others, in the room that there was
pub record Adds (old new : NodeList) (added : List Tree) : Type 0 where
  pub after : list_trees new ≡ list_trees old ++ added
  pub nodes : vec_len new.nodes ≡ vec_len old.nodes + trees_count (trees added)
  pub capacity : vec_capacity new.nodes ≡ vec_capacity old.nodes

-- one node was added, in the room that there was
pub record AddsNode (old new : NodeList) : Type 0 where
  pub nodes : vec_len new.nodes ≡ vec_len old.nodes + 1
  pub capacity : vec_capacity new.nodes ≡ vec_capacity old.nodes
