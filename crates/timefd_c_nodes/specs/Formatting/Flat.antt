-- Descriptions without optional parts and alternatives, as their components and texts in turn.
use Rattle.std.specs.Prelude.{ℕ, ◌≡◌, ◌+◌, ◌-◌, ◌≤◌, ◌⊎◌, ◌++◌, ◌∷◌, [], List, Some, map, true}
use Rattle.timefd_lang_component.specs.Tree.{Text, Tree, compound, trees}
use Rattle.timefd_lang_node_list.specs.LeafMeaning.{leaf_tree}
use Rattle.timefd_lang_node_list.specs.Nodes.{Role, arity, made, together}
use Rattle.timefd_lang_node_list.specs.declared.leaves.Leaf.{Leaf}
use Rattle.timefd_c_nodes.specs.declared.node.RawNode.{RawNode}
use Rattle.timefd_c_nodes.specs.Formatting.Literals.{is_textual}
use Rattle.timefd_c_nodes.specs.Formatting.Parts.{role_in}
use Rattle.timefd_date_moment.specs.Fields.Reads.{fields_of}

-- The node is part of a description and has no members, and its tree is that of the component or text.
pub record IsLeaf (literals : Text) (n : RawNode) (leaf : Leaf) : Type 0 where
  pub role : Role
  pub is : role_in literals n ≡ Some role
  pub alone : arity role ≡ 0
  pub textual : is_textual role ≡ true
  pub tree : made role [] ≡ leaf_tree leaf

-- A date is read by these leaves in turn as by these trees.
abbrev pub ReadAs : List Tree → List Leaf → Type 0
ReadAs ts leaves = (date : Text) → fields_of (compound (trees ts)) date
    ≡ fields_of (compound (trees (map leaf_tree leaves))) date

-- The node is a leaf more.
pub record IsAdded (literals : Text) (n : RawNode) (parts : ℕ) (leaves : List Leaf) (after : ℕ) (more : List Leaf) : Type 0 where
  pub leaf : Leaf
  pub is : IsLeaf literals n leaf
  pub one : after ≡ parts + 1
  pub added : more ≡ leaves ++ leaf ∷ []

-- The node makes one part of the last ones in front of it.
pub record IsMadeOf (literals : Text) (n : RawNode) (parts : ℕ) (leaves : List Leaf) (after : ℕ) (more : List Leaf) : Type 0 where
  pub count : ℕ
  pub is : role_in literals n ≡ Some (together count)
  pub few : count ≤ parts
  pub one : after ≡ parts - count + 1
  pub same : more ≡ leaves

-- After the node there are so many parts, of these leaves.
abbrev pub Takes : Text → RawNode → ℕ → List Leaf → ℕ → List Leaf → Type 0
Takes literals n parts leaves after more =
    IsAdded literals n parts leaves after more ⊎ IsMadeOf literals n parts leaves after more
