-- What a description means.
use Rattle.std.specs.Prelude.{ℕ, Bool, true, false, Option, Some, None, List, [], ◌∷◌, ◌++◌}
use Rattle.timefd_lang_component.specs.declared.component.Component.{Component}

-- bytes
abbrev pub Text : Type 0
Text = List ℕ

mutual
  pub data Tree : Type 0 where
    component : Component → Tree
    literal : Text → Tree
    compound : Trees → Tree
    optional : Bool → Tree → Tree
    first : Trees → Tree

  pub data Trees : Type 0 where
    no_trees : Trees
    more_trees : Tree → Trees → Trees

abbrev pub trees : List Tree → Trees
trees [] = no_trees
trees (t ∷ ts) = more_trees t (trees ts)

-- A list of exactly one tree means that tree. Any other list means its compound.
abbrev pub pack : List Tree → Tree
pack [] = compound no_trees
pack (t ∷ []) = t
pack (t ∷ u ∷ ts) = compound (trees (t ∷ u ∷ ts))

-- the component that a tree is, if it is one
abbrev pub component_in : Tree → Option Component
component_in (component c) = Some c
component_in _ = None

-- whether a tree is the compound of no trees
abbrev pub is_none : Tree → Bool
is_none (compound no_trees) = true
is_none _ = false

-- the trees that a tree is the compound of, if it is a compound
abbrev pub trees_in : Tree → Option Trees
trees_in (compound ts) = Some ts
trees_in _ = None

-- joins neighbouring literals of a list into one
abbrev pub before_joined : Tree → List Tree → List Tree
before_joined (literal a) (literal b ∷ ts) = literal (a ++ b) ∷ ts
before_joined t ts = t ∷ ts

abbrev pub joined : List Tree → List Tree
joined [] = []
joined (t ∷ ts) = before_joined t (joined ts)
