-- What a view sees of a description, in place.
use Rattle.std.specs.Prelude.{ℕ, ◌≡◌, ◌≤◌, Option, Some, None, List, [], ◌∷◌, ◌++◌, map, length, take, drop, ⊤}
use Rattle.std.specs.Coded.{Unit-prop, ×_prop, →_prop}
use Rattle.std.proofs.Props.{props}
use Rattle.timefd_lang_node_list.specs.declared.members.Members.{Members}
use Rattle.timefd_lang_node_list.specs.declared.members.Mark.{Mark}
use Rattle.timefd_lang_node_list.specs.declared.node.Node.{Node}
use Rattle.timefd_lang_node_list.specs.declared.view.View.{View}
use Rattle.timefd_lang_node_list.specs.declared.view.Shape.{Shape}
use Rattle.timefd_lang_node_list.specs.declared.view.Shape.TheVariants as shape
use Rattle.timefd_lang_node_list.specs.Nodes.{Part, part, arity, made, ending, grown, grown_by}
use Rattle.timefd_lang_component.specs.Reserved.{trees_count}
use Rattle.timefd_lang_component.specs.Tree.{Tree, component, literal, compound, optional, first, trees, pack, Trees, no_trees, more_trees}

-- the tree that is looked at
abbrev pub view_tree : View → Tree
view_tree v = pack (grown_by [] (map part v.nodes.now))

-- the members that are looked at, one after another
abbrev pub member_trees : Members → List Tree
member_trees m = grown_by [] (map part m.nodes.now)

-- the tree of this shape
abbrev pub shape_tree : Shape → Tree
shape_tree (shape.Component c) = component c
shape_tree (shape.Literal text) = literal text.now
shape_tree (shape.Compound members) = compound (trees (member_trees members))
shape_tree (shape.Optional format member) = optional format (view_tree member)
shape_tree (shape.First members) = first (trees (member_trees members))

-- from a position on there are this many nodes
abbrev pub IsMark : List Tree → Mark → Type 0
IsMark ts m = m.count ≤ length ts → m.nodes ≡ trees_count (trees (ending m.count ts))

abbrev pub AreMarks : List Tree → List Mark → Type 0
AreMarks ts [] = ⊤
AreMarks ts (m ∷ ms) = IsMark ts m × AreMarks ts ms

pub IsMark-prop : (ts : List Tree) (m : Mark) → IsProp (IsMark ts m)
IsMark-prop ts m = →_prop (Prim.hlevel props)

pub AreMarks-prop : (ts : List Tree) (ms : List Mark) → IsProp (AreMarks ts ms)
AreMarks-prop ts [] = Unit-prop
AreMarks-prop ts (m ∷ ms) = ×_prop (IsMark-prop ts m) (AreMarks-prop ts ms)

-- all parts of a tree, one after another, each after its members
abbrev mutual
  pub walked : Tree → List Tree
  walked (component c) = component c ∷ []
  walked (literal bytes) = literal bytes ∷ []
  walked (compound ts) = walked_all ts ++ compound ts ∷ []
  walked (optional format t) = walked t ++ optional format t ∷ []
  walked (first ts) = walked_all ts ++ first ts ∷ []

  pub walked_all : Trees → List Tree
  walked_all no_trees = []
  walked_all (more_trees t ts) = walked t ++ walked_all ts

-- the tree of each node, after these trees
abbrev pub made_each : List Tree → List Part → List Tree
made_each ts [] = []
made_each ts (p ∷ ps) = made p.role (ending (arity p.role) ts) ∷ made_each (grown ts p) ps

abbrev pub view_trees : Option View → List Tree
view_trees None = []
view_trees (Some v) = view_tree v ∷ []

-- the tree of each node from this index on
abbrev pub walk_from : List Node → ℕ → List Tree
walk_from ns at = made_each (grown_by [] (map part (take at ns))) (map part (drop at ns))
