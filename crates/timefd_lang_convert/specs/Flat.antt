-- A sequence of trees, with compounds taken apart.
use Rattle.std.specs.Prelude.{List, [], ◌∷◌, ◌++◌}
use Rattle.timefd_lang_component.specs.Tree.{Tree, component, literal, compound, optional, first, Trees, no_trees, more_trees}

abbrev mutual
  pub flat : Tree → List Tree
  flat (component c) = component c ∷ []
  flat (literal bytes) = literal bytes ∷ []
  flat (compound ts) = flat_all ts
  flat (optional format t) = optional format t ∷ []
  flat (first ts) = first ts ∷ []

  pub flat_all : Trees → List Tree
  flat_all no_trees = []
  flat_all (more_trees t ts) = flat t ++ flat_all ts
