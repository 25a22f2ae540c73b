-- Equality of trees.
use Rattle.std.specs.Prelude.{Bool, false, true, ◌&&◌, nat_eq}
use Rattle.std.specs.Bool.{beq}
use Rattle.std.specs.Cmp.Lexicographic.{pointwise}
use Rattle.timefd_lang_component.specs.Tree.{Tree, component, literal, compound, optional, first, Trees, no_trees, more_trees}
use Rattle.timefd_lang_component.specs.Equality.{same_component}

abbrev mutual
  pub same_tree : Tree → Tree → Bool
  same_tree (component a) (component b) = same_component a b
  same_tree (literal a) (literal b) = pointwise nat_eq a b
  same_tree (compound a) (compound b) = same_trees a b
  same_tree (optional f a) (optional g b) = beq f g && same_tree a b
  same_tree (first a) (first b) = same_trees a b
  same_tree _ _ = false

  pub same_trees : Trees → Trees → Bool
  same_trees no_trees no_trees = true
  same_trees (more_trees a rest) (more_trees b others) = same_tree a b && same_trees rest others
  same_trees _ _ = false
