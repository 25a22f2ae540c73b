-- Trees in their modern form.
use Rattle.std.proofs.Common.{◌≡◌, ◌∙◌, Bool, List, [], ◌∷◌, refl, sym, ap}
use Rattle.timefd_parse.specs.Modern.{IsModern, AreModern}
use Rattle.timefd_parse.specs.Tree.{Tree, component, literal, compound, optional, first, Trees, no_trees, more_trees, trees}
use Rattle.timefd_description.specs.Modern.{modern_list, modern_tree, modern_trees}
use Rattle.timefd_parse.specs.Pieces.{IsLeaf, IsLeafTree, IsPiece}
use Rattle.timefd_parse.specs.declared.piece.Piece.{Piece}
use Rattle.timefd_parse.specs.declared.piece.Piece.TheVariants.{Literal, Component, Compound}

mutual
  modern_same : (t : Tree) → IsModern t → modern_tree t ≡ t
  modern_same (component c) is = ap component is
  modern_same (literal bytes) is = refl
  modern_same (compound ts) is = ap compound (modern_all ts is)
  modern_same (optional format t) is = ap (optional format) (modern_same t is)
  modern_same (first ts) is = ap first (modern_all ts is)

  modern_all : (ts : Trees) → AreModern ts → modern_trees ts ≡ ts
  modern_all no_trees is = refl
  modern_all (more_trees t ts) is =
      ap (λ u. more_trees u (modern_trees ts)) (modern_same t is.0) ∙
      ap (λ us. more_trees t us) (modern_all ts is.1)

pub list_modern : (ts : List Tree) → AreModern (trees ts) → modern_list ts ≡ ts
list_modern [] is = refl
list_modern (t ∷ ts) is =
    ap (λ u. u ∷ modern_list ts) (modern_same t is.0) ∙ ap (λ us. t ∷ us) (list_modern ts is.1)

-- the tree of a piece of versions 1 and 2

pub leaf_tree : (strict builds : Bool) (old new : List Tree) (piece : Piece) (tree : Tree)
    → IsLeaf piece → IsPiece strict builds old new piece tree → IsLeafTree piece tree
leaf_tree strict builds old new (Literal text) tree leaf is = is.0
leaf_tree strict builds old new (Component c bytes) tree leaf is = is.0
leaf_tree strict builds old new Compound tree leaf is = absurd leaf

pub leaf_modern : (strict builds : Bool) (old new : List Tree) (piece : Piece) (tree : Tree)
    → IsLeaf piece → IsPiece strict builds old new piece tree → modern_tree tree ≡ tree
leaf_modern strict builds old new (Literal text) tree leaf is = ap modern_tree is.0 ∙ sym is.0
leaf_modern strict builds old new (Component c bytes) tree leaf is =
    ap modern_tree is.0 ∙ ap component is.1 ∙ sym is.0
leaf_modern strict builds old new Compound tree leaf is = absurd leaf
