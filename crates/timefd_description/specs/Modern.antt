-- Trees whose components are in their modern form, as nodes have them.
use Rattle.std.specs.Prelude.{Bool, true, false, List, map}
use Rattle.timefd_parse.specs.Modern.{modern}
use Rattle.timefd_parse.specs.Tree.{Tree, component, literal, compound, optional, first, Trees, no_trees, more_trees}

-- the same tree with each component in its modern form
abbrev mutual
  pub modern_tree : Tree → Tree
  modern_tree (component c) = component (modern c)
  modern_tree (literal bytes) = literal bytes
  modern_tree (compound ts) = compound (modern_trees ts)
  modern_tree (optional format t) = optional format (modern_tree t)
  modern_tree (first ts) = first (modern_trees ts)

  pub modern_trees : Trees → Trees
  modern_trees no_trees = no_trees
  modern_trees (more_trees t ts) = more_trees (modern_tree t) (modern_trees ts)

abbrev pub modern_list : List Tree → List Tree
modern_list = map modern_tree

-- whether the tree has no members
abbrev pub is_leaf : Tree → Bool
is_leaf (component c) = true
is_leaf (literal bytes) = true
is_leaf (compound ts) = false
is_leaf (optional format t) = false
is_leaf (first ts) = false
