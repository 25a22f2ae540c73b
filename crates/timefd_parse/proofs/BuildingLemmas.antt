-- What is built, one piece after another.
use Rattle.std.proofs.Common.{◌≡◌, ◌∙◌, ℕ, ◌≤◌, ◌==◌, Bool, not, List, [], ◌∷◌, ◌++◌, length, Result, IsTrue, IsFalse, OnOk, sym, ap, subst, arith, append_assoc, append-nil, length-append}
use Rattle.std.proofs.lemmas.Bool.{true≢false}
use Rattle.std.proofs.lemmas.Bool.Decides.{nat_tests}
use Rattle.std.proofs.lemmas.Result.{on_ok_weaker}
use Rattle.timefd_lang_node_list.specs.Nodes.{before, ending}
use Rattle.timefd_lang_component.specs.Reserved.{reserve_all}
use Rattle.timefd_lang_component.specs.Tree.{Text, Tree, pack, trees}
use Rattle.timefd_lang_node_list.proofs.NodeLemmas.{before-append, ending-append}
use Rattle.timefd_language.specs.declared.description_version.DescriptionVersion.{DescriptionVersion}
use Rattle.timefd_parse.specs.declared.piece.Piece.{Piece}
use Rattle.timefd_parse.specs.declared.piece.Piece.TheVariants.{Literal, Component, Compound}
use Rattle.timefd_language.specs.Bytes.{is_version_three}
use Rattle.timefd_parse.specs.Pieces.{IsBuilt, IsPiece, IsLeaf, IsLeafTree}
use Rattle.timefd_parse.specs.Read.{PiecesToEnd}
use Rattle.timefd_language.proofs.Reserved.{reserved_within}
use Rattle.timefd_language.specs.declared.description_version.DescriptionVersion.TheVariants.{One, Two, Three}
use Rattle.timefd_language.specs.Grammar.{spelling}

-- what was read in version 3 reserves no more bytes than the text has
pub list_within : (v : DescriptionVersion) (limit n : ℕ) (text : Text) (list : List Tree)
    (rest : Text) → IsTrue (is_version_three v) → PiecesToEnd v limit n text list rest
    → reserve_all (trees list) ≤ length text
list_within One limit n text list rest three are = absurd (true≢false (sym three))
list_within Two limit n text list rest three are = absurd (true≢false (sym three))
list_within Three limit n text list rest three are =
    omega (
      arith,
      reserved_within limit n are.0 are.1,
      ap (λ ts. reserve_all (trees ts)) are.3,
      ap length are.2,
      length-append (spelling are.0) rest,
    )

pub built_none : (builds : Bool) (old : List Tree) → IsBuilt builds old old []
built_none builds old = λ on. sym (append-nil old)

pub built_more : (builds : Bool) (old between new done list : List Tree)
    → IsBuilt builds old between done → IsBuilt builds between new list
    → IsBuilt builds old new (done ++ list)
built_more builds old between new done list first more = λ on.
    more on ∙ ap (λ ts. ts ++ list) (first on) ∙ append_assoc old done list

-- A constant parameter, which is a number in what is tested.

pub is_off : (n : ℕ) → n ≡ 0 → IsFalse (not (n == 0))
is_off n off = ap (λ k. not (k == 0)) off

pub is_on : (n : ℕ) → (n ≡ 0 → ⊥) → IsTrue (not (n == 0))
is_on n on = grind (arith, nat_tests, on)

-- Pieces.

pub built_unsaid : (builds : Bool) (old new list : List Tree) → IsFalse builds
    → IsBuilt builds old new list
built_unsaid builds old new list off = λ on. absurd (true≢false (sym on ∙ off))

-- versions 1 and 2 have no compounds
pub is_leaf : (strict builds : Bool) (old new : List Tree) (piece : Piece) (tree : Tree)
    → IsFalse strict → IsPiece strict builds old new piece tree → IsLeaf piece
is_leaf strict builds old new (Literal text) tree lax is = tt
is_leaf strict builds old new (Component c bytes) tree lax is = tt
is_leaf strict builds old new Compound tree lax is = absurd (true≢false (sym is.0 ∙ lax))

pub same_leaf : (strict builds : Bool) (old new : List Tree) (piece : Piece) (tree leaf : Tree)
    → IsPiece strict builds old new piece tree → IsLeafTree piece leaf → leaf ≡ tree
same_leaf strict builds old new (Literal text) tree leaf is same = same ∙ sym is.0
same_leaf strict builds old new (Component c bytes) tree leaf is same = same ∙ sym is.0
same_leaf strict builds old new Compound tree leaf is same = absurd same

-- The last of them.

pub built_there : (builds : Bool) (old new list : List Tree) (count : ℕ)
    → IsBuilt builds old new list → count ≡ length list → IsTrue builds → count ≤ length new
built_there builds old new list count are counted on =
    omega (arith, counted, ap length (are on), length-append old list)

pub built_last : (builds : Bool) (old new list : List Tree) (count : ℕ)
    → IsBuilt builds old new list → count ≡ length list → IsTrue builds → ending count new ≡ list
built_last builds old new list count are counted on = ap (ending count) (are on) ∙
    ending-append old list count counted

pub built_within : (v : DescriptionVersion) (builds : Bool) (limit n : ℕ) (text rest : Text)
    (old new list : List Tree) (count : ℕ) → PiecesToEnd v limit n text list rest
    → IsBuilt builds old new list → count ≡ length list
    → IsTrue (is_version_three v) → IsTrue builds
    → reserve_all (trees (ending count new)) ≤ length text
built_within v builds limit n text rest old new list count read are counted three on =
    subst (λ ts. reserve_all (trees ts) ≤ length text)
    (sym (built_last builds old new list count are counted on))
    (list_within v limit n text list rest three read)

pub pack_last : {T E : Type 0} (r : Result T E) (builds : Bool) (base old new list : List Tree)
    (count : ℕ) → IsBuilt builds base old list → count ≡ length list → IsTrue builds
    → OnOk r (new ≡ before count old ++ pack (ending count old) ∷ [])
    → OnOk r (IsBuilt builds base new (pack list ∷ []))
pack_last r builds base old new list count are counted on packed =
    on_ok_weaker r
    (λ e _. e ∙ ap (λ ts. before count ts ++ pack (ending count ts) ∷ []) (are on)
    ∙ ap (λ ts. ts ++ pack (ending count (base ++ list)) ∷ [])
    (before-append base list count counted)
    ∙ ap (λ ts. base ++ pack ts ∷ []) (ending-append base list count counted))
    packed
