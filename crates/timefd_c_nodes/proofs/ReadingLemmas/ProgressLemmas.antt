-- One item after another is read and written.
use Rattle.std.proofs.Common.{◌≡◌, ◌∙◌, ◌+◌, ◌<◌, ◌≤◌, Bool, List, [], ◌∷◌, ◌++◌, length, refl, sym, ap, subst, arith, length-append, append-nil, append_assoc}
use Rattle.timefd_lang_component.specs.Reserved.{reserve, reserve_all}
use Rattle.timefd_lang_component.specs.Tree.{Text, Tree, component, literal, compound, optional, first, trees}
use Rattle.timefd_lang_node_list.specs.Views.{walked, walked_all}
use Rattle.timefd_c_nodes.specs.declared.node.RawNode.{RawNode}
use Rattle.timefd_c_nodes.specs.declared.position.TheConstants.{START}
use Rattle.timefd_c_nodes.specs.declared.position.Written.{Written}
use Rattle.timefd_c_nodes.specs.Writing.{IsWritten, WritesWithin}
use Rattle.timefd_c_nodes.proofs.TreeLemmas.{walked_length}
use Rattle.timefd_c_nodes.proofs.WithinLemmas.{within_both, within_none}
use Rattle.timefd_parse.specs.declared.piece.Piece.{Piece}
use Rattle.timefd_parse.specs.declared.piece.Piece.TheVariants.{Literal, Component, Compound}
use Rattle.timefd_parse.specs.Pieces.{IsLeaf, IsLeafTree, IsPiece}
use Rattle.timefd_c_nodes.specs.declared.reading.progress.ReadProgress.{ReadProgress}
use Rattle.timefd_c_nodes.specs.declared.reading.progress.TheConstants.{NOTHING}
use Rattle.timefd_c_nodes.specs.Reading.Progress.{HasWritten, one_more}

pub walked_more : (ts : List Tree) (t : Tree)
    → walked_all (trees (ts ++ t ∷ [])) ≡ walked_all (trees ts) ++ walked t
walked_more [] t = append-nil (walked t)
walked_more (u ∷ ts) t = ap (λ l. walked u ++ l) (walked_more ts t) ∙
    sym (append_assoc (walked u) (walked_all (trees ts)) (walked t))

pub reserve_more : (ts : List Tree) (t : Tree)
    → reserve_all (trees (ts ++ t ∷ [])) ≡ reserve_all (trees ts) + reserve t
reserve_more [] t = omega arith
reserve_more (u ∷ ts) t = omega (arith, reserve_more ts t)

some_node : (t : Tree) → 1 ≤ length (walked t)
some_node (component c) = omega arith
some_node (literal bytes) = omega arith
some_node (compound ts) = omega (arith, walked_length (compound ts))
some_node (optional format t) = omega (arith, walked_length (optional format t))
some_node (first ts) = omega (arith, walked_length (first ts))

-- each item has a node
nodes_at_least : (ts : List Tree) → length ts ≤ length (walked_all (trees ts))
nodes_at_least [] = omega arith
nodes_at_least (t ∷ ts) =
    omega (arith, length-append (walked t) (walked_all (trees ts)), some_node t, nodes_at_least ts)

pub nothing_written : (ns : List RawNode) (a : Text) → HasWritten [] ns ns a a NOTHING
nothing_written ns a = record {
  within = within_none START ns a;
  count = refl;
  bytes = omega arith;
}

pub written_more : (list : List Tree) (t : Tree) (p q : ReadProgress) (w : Written)
    (ns ms ks : List RawNode) (a b c : Text) → HasWritten list ns ms a b p
    → IsWritten (walked t) (reserve t) p.end ms ks b c w → q ≡ one_more p w
    → HasWritten (list ++ t ∷ []) ns ks a c q
written_more list t p q w ns ms ks a b c before is more =
    subst (HasWritten (list ++ t ∷ []) ns ks a c) (sym more) (record {
      within = subst (λ ts. WritesWithin ts START w.end ns ks a c) (sym (walked_more list t))
          (within_both (walked_all (trees list)) (walked t) START p.end w.end ns ms ks a b c
          before.within is.within);
      count = omega (arith, before.count, length-append list (t ∷ []));
      bytes = omega (arith, before.bytes, is.bytes, reserve_more list t);
    })

pub counted_below : (list : List Tree) (t : Tree) (p : ReadProgress) (w : Written)
    (ns ms ks : List RawNode) (a b c : Text) → HasWritten list ns ms a b p
    → IsWritten (walked t) (reserve t) p.end ms ks b c w → p.count < w.end.nodes
counted_below list t p w ns ms ks a b c before is = omega (
  arith,
  before.count,
  before.within.node_at,
  is.within.node_at,
  nodes_at_least list,
  some_node t,
)

-- Pieces.

pub leaf_tree : (strict builds : Bool) (old new : List Tree) (piece : Piece) (tree : Tree)
    → IsLeaf piece → IsPiece strict builds old new piece tree → IsLeafTree piece tree
leaf_tree strict builds old new (Literal text) tree leaf is = is.0
leaf_tree strict builds old new (Component c bytes) tree leaf is = is.0
leaf_tree strict builds old new Compound tree leaf is = absurd leaf

pub other_leaf : (piece : Piece) → (piece ≡ Compound → ⊥) → IsLeaf piece
other_leaf (Literal text) other = tt
other_leaf (Component c bytes) other = tt
other_leaf Compound other = absurd (other refl)
