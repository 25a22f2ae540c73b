-- The description of version 3 that is written as a whole.
use Rattle.std.proofs.Common.{◌≡◌, ℕ, ◌^◌, ◌<◌, ◌≤◌, List, [], ◌∷◌, ◌++◌, IfSome, Option, true, refl, ap, subst, arith, append-nil}
use Rattle.timefd_lang_component.specs.Reserved.{reserve, reserve_all}
use Rattle.timefd_lang_component.specs.Tree.{Text, Tree, pack, trees}
use Rattle.timefd_lang_node_list.specs.Views.{walked, walked_all}
use Rattle.timefd_c_nodes.specs.declared.node.RawNode.{RawNode}
use Rattle.timefd_c_nodes.specs.declared.position.TheConstants.{START}
use Rattle.timefd_c_nodes.specs.declared.position.Written.{Written}
use Rattle.timefd_c_nodes.specs.Encoding.{compound_node}
use Rattle.timefd_c_nodes.specs.Writing.{IsWritten, Puts, WritesWithin}
use Rattle.timefd_c_nodes.proofs.WithinLemmas.{written_compound}
use Rattle.timefd_parse.specs.declared.piece.Piece.{Piece}
use Rattle.timefd_parse.specs.declared.piece.Piece.TheVariants.{Literal, Component, Compound}
use Rattle.timefd_parse.specs.Pieces.{IsPiece}
use Rattle.timefd_c_nodes.specs.declared.reading.progress.ReadProgress.{ReadProgress}
use Rattle.timefd_c_nodes.specs.Reading.Progress.{HasWritten}
use Rattle.timefd_c_nodes.proofs.ReadingLemmas.ProgressLemmas.{reserve_more}

abbrev written_so_far : ReadProgress → Written
written_so_far p = record { end = p.end; bytes = p.bytes }

after_all : (list : List Tree) (p : ReadProgress) (before ms : List RawNode) (a b : Text)
    → HasWritten list before ms a b p
    → IsWritten (walked_all (trees list)) (reserve_all (trees list)) START before ms a b
    (written_so_far p)
after_all list p before ms a b all = record { within = all.within; bytes = all.bytes }

-- several pieces, or none, in one node after them
pub whole_written : (list : List Tree) (p : ReadProgress) (before ms ks : List RawNode) (a b : Text)
    (n : RawNode) (r : Option Written) → HasWritten list before ms a b p → (p.count ≡ 1 → ⊥)
    → n ≡ compound_node 0 p.count p.bytes → IfSome r (Puts n p.bytes p.end ms ks)
    → IfSome r (IsWritten (walked (pack list)) (reserve (pack list)) START before ks a b)
whole_written [] p before ms ks a b n r all several is puts =
    written_compound [] START (written_so_far p) r n p.count before ms ks a b
    (after_all [] p before ms a b all) all.count is puts
whole_written (t ∷ []) p before ms ks a b n r all several is puts = absurd (several all.count)
whole_written (t ∷ u ∷ ts) p before ms ks a b n r all several is puts =
    written_compound (t ∷ u ∷ ts) START (written_so_far p) r n p.count before ms ks a b
    (after_all (t ∷ u ∷ ts) p before ms a b all) all.count is puts

-- one piece, which is everything
pub one_written : (list : List Tree) (p : ReadProgress) (before ms : List RawNode) (a b : Text)
    → HasWritten list before ms a b p → p.count ≡ 1
    → IsWritten (walked (pack list)) (reserve (pack list)) START before ms a b (written_so_far p)
one_written [] p before ms a b all one = absurd (omega (arith, all.count, one))
one_written (t ∷ []) p before ms a b all one = record {
  within = subst (λ ts. WritesWithin ts START p.end before ms a b) (append-nil (walked t))
      all.within;
  bytes = omega (arith, all.bytes);
}
one_written (t ∷ u ∷ ts) p before ms a b all one = absurd (omega (arith, all.count, one))

-- What is built from one piece fits, because what was read reserves no more bytes than the text has.
pub built_small : (done new : List Tree) (piece : Piece) (tree : Tree) (most : ℕ)
    → IsPiece true true [] new piece tree
    → reserve_all (trees (done ++ tree ∷ [])) ≤ most → most < 2 ^ 64
    → reserve_all (trees new) < 2 ^ 64
built_small done new (Literal text) tree most is within small =
    omega (arith, ap (λ ts. reserve_all (trees ts)) (is.1 refl))
built_small done new (Component c bytes) tree most is within small =
    omega (arith, ap (λ ts. reserve_all (trees ts)) (is.2 refl))
built_small done new Compound tree most is within small = omega (
  arith,
  within,
  small,
  reserve_more done tree,
  ap (λ ts. reserve_all (trees ts)) (is.1 refl),
)
