-- The parts of a tree that a formatter writes.
use Rattle.std.specs.Prelude.{ℕ, ◌-◌, if◌then◌else◌, List, [], ◌∷◌, ◌++◌}
use Rattle.timefd_lang_component.specs.Modern.{modern}
use Rattle.timefd_lang_component.specs.Tree.{Tree, component, literal, compound, optional, first, Trees, no_trees, more_trees, trees}
use Rattle.timefd_lang_node_list.specs.Nodes.{Role, text, shown, perhaps, either}

abbrev mutual
  pub leaves : Tree → List Tree
  leaves (component c) = component c ∷ []
  leaves (literal bytes) = literal bytes ∷ []
  leaves (compound ts) = leaves_all ts
  leaves (optional format t) = if format then leaves t else []
  leaves (first ts) = leaves_first ts

  pub leaves_all : Trees → List Tree
  leaves_all no_trees = []
  leaves_all (more_trees t ts) = leaves t ++ leaves_all ts

  pub leaves_first : Trees → List Tree
  leaves_first no_trees = []
  leaves_first (more_trees t ts) = leaves t

abbrev pub leaves_in : List Tree → List Tree
leaves_in ts = leaves_all (trees ts)

-- what a node is by itself
abbrev pub role_leaves : Role → List Tree
role_leaves (text bytes) = literal bytes ∷ []
role_leaves (shown c) = component (modern c) ∷ []
role_leaves _ = []

-- how many of its last members no formatter writes
abbrev pub unwritten : Role → ℕ
unwritten (perhaps format) = if format then 0 else 1
unwritten (either count) = count - 1
unwritten _ = 0
