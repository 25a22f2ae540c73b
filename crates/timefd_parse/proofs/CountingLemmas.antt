-- What is counted for the pieces of a text, one after another.
use Rattle.std.proofs.Common.{◌≡◌, ◌∙◌, ℕ, ◌+◌, ◌≤◌, List, [], ◌∷◌, ◌++◌, length, true, refl, ap, arith, append-nil, length-append}
use Rattle.timefd_lang_component.specs.Reserved.{reserved, reserve, reserve_all}
use Rattle.timefd_lang_component.specs.Tree.{Text, Tree, pack, trees}
use Rattle.timefd_language.specs.declared.description_version.DescriptionVersion.TheVariants.{Three}
use Rattle.timefd_language.specs.Grammar.{no_pieces, spelling}
use Rattle.timefd_language.proofs.Reserved.{reserved_within}
use Rattle.timefd_parse.specs.declared.piece.Piece.{Piece}
use Rattle.timefd_parse.specs.declared.piece.Piece.TheVariants.{Literal, Component, Compound}
use Rattle.timefd_parse.specs.Pieces.{IsPiece, own_bytes}
use Rattle.timefd_parse.proofs.ReadLemmas.{Continues}

one_more_sum : (ts : List Tree) (t : Tree)
    → reserve_all (trees (ts ++ t ∷ [])) ≡ reserve_all (trees ts) + reserve t
one_more_sum [] t = omega arith
one_more_sum (u ∷ ts) t = omega (arith, one_more_sum ts t)

pub pack_sum : (ts : List Tree) → reserve (pack ts) ≡ reserve_all (trees ts)
pack_sum [] = refl
pack_sum (t ∷ []) = omega arith
pack_sum (t ∷ u ∷ ts) = refl

-- one more piece, which is built or reserves bytes of its own
pub counted_more : (bytes : ℕ) (old new done : List Tree) (piece : Piece) (tree : Tree)
    → IsPiece true true old new piece tree
    → bytes + reserve_all (trees old) ≡ reserve_all (trees done)
    → bytes + own_bytes piece + reserve_all (trees new) ≡ reserve_all (trees (done ++ tree ∷ []))
counted_more bytes old new done (Literal text) tree is sum =
    omega (
      arith,
      sum,
      one_more_sum done tree,
      ap reserve is.0,
      ap (λ ts. reserve_all (trees ts)) (is.1 refl),
    )
counted_more bytes old new done (Component c own) tree is sum =
    omega (
      arith,
      sum,
      one_more_sum done tree,
      ap reserve is.0,
      ap reserved is.1,
      is.3 refl,
      ap (λ ts. reserve_all (trees ts)) (is.2 refl),
    )
counted_more bytes old new done Compound tree is sum =
    omega (
      arith,
      sum,
      one_more_sum done tree,
      one_more_sum old tree,
      ap (λ ts. reserve_all (trees ts)) (is.1 refl),
    )

pub fewer_more : (old new done : List Tree) (piece : Piece) (tree : Tree)
    → IsPiece true true old new piece tree → length old ≤ length done
    → length new ≤ length (done ++ tree ∷ [])
fewer_more old new done (Literal text) tree is fewer =
    omega (arith, fewer, ap length (is.1 refl), length-append done (tree ∷ []))
fewer_more old new done (Component c own) tree is fewer =
    omega (arith, fewer, ap length (is.2 refl), length-append done (tree ∷ []))
fewer_more old new done Compound tree is fewer =
    omega (
      arith,
      fewer,
      ap length (is.1 refl),
      length-append old (tree ∷ []),
      length-append done (tree ∷ []),
    )

-- what was read so far reserves no more bytes than the text has
pub continues_within : (limit : ℕ) (text : Text) (done : List Tree) (rest : Text)
    → Continues Three limit 0 text done rest → reserve_all (trees done) ≤ length text
continues_within limit text done rest before =
    let w = before no_pieces rest tt refl in
    omega (
      arith,
      reserved_within limit 0 w.0 w.1,
      ap (λ ts. reserve_all (trees ts)) (w.3 ∙ append-nil done),
      ap length w.2,
      length-append (spelling w.0) rest,
    )

-- if nothing was read, nothing is built
pub none_built : (built list : List Tree) → length built ≤ length list → list ≡ [] → built ≡ []
none_built [] list fewer none = refl
none_built (t ∷ ts) list fewer none = absurd (omega (arith, fewer, ap length none))
