-- Pieces, one after another, with the nodes of each.
use Rattle.std.proofs.Common.{ℕ, ◌≡◌, ◌∙◌, ◌+◌, ◌<◌, ◌≤◌, List, [], ◌∷◌, ◌++◌, length, drop, get_or, refl, sym, ap, subst, add-one, drop-cons, append_assoc, append-nil}
use Rattle.std.proofs.lemmas.List.{drop_all}
use Rattle.timefd_lang_component.specs.Tree.{Text, Tree, trees}
use Rattle.timefd_lang_node_list.specs.declared.item.borrowed_format_item.BorrowedFormatItem.{BorrowedFormatItem}
use Rattle.timefd_lang_node_list.specs.Item.Meaning.{item_tree, item_trees}
use Rattle.timefd_language.specs.Grammar.{nesting_limit}
use Rattle.timefd_parse.specs.Language.{SpellsIn}
use Rattle.timefd_language.specs.declared.description_version.Language.{Language}
use Rattle.timefd_lint_explain.specs.declared.node.ShownNode.{ShownNode}
use Rattle.timefd_lint_explain.specs.declared.piece.Shown.{Shown}
use Rattle.timefd_lint_explain.specs.Parts.{all_parts, members, parts, piece, IsPiece, Adds}
use Rattle.timefd_lint_explain.specs.Shown.{AreShown, AreSpelled, IsShown, Shows}
use Rattle.timefd_lint_explain.proofs.PartLemmas.{adds_none, adds_one, adds_both, all_more, members_more}

-- The nodes of the pieces so far, and the pieces that are left.
pub record Walked (language : Language) (d : ℕ) (list : List Tree) (ss : List Shown)
    (old new : List ShownNode) : Type 0 where
  pub done : List Tree
  pub others : List Tree
  pub list_is : list ≡ done ++ others
  pub shown : AreShown ss others
  pub spelled : AreSpelled language ss others
  pub adds : Adds (all_parts d (trees done)) old new

pub walked_first : (language : Language) (d : ℕ) (text : Text) (list : List Tree)
    (ss : List Shown) (ns : List ShownNode) → Shows language text list ss
    → Walked language d list ss ns ns
walked_first language d text list ss ns shows = record {
  done = [];
  others = list;
  list_is = refl;
  shown = shows.each;
  spelled = shows.spelled;
  adds = adds_none ns;
}

pub from_location : {A : Type 0} (xs : List A) (at : ℕ) (x : A) → at < length xs → x ≡ get_or xs at x
    → drop at xs ≡ x ∷ drop (at + 1) xs
from_location xs at x below is =
    let head : drop at xs ≡ get_or xs at x ∷ drop (at + 1) xs =
    rw add-one (drop-cons xs at x below) in
    head ∙ ap (λ y. y ∷ drop (at + 1) xs) (sym is)

one_walked : (language : Language) (d : ℕ) (list : List Tree) (s : Shown) (ss : List Shown)
    (old a b : List ShownNode)
    → ((tree : Tree) → SpellsIn language nesting_limit s.text.now (tree ∷ []) → IsShown s tree
    → Adds (parts d tree) a b)
    → Walked language d list (s ∷ ss) old a → Walked language d list ss old b
one_walked language d list s ss old a b adds before =
    by before.others before.list_is before.shown before.spelled
  where
    by : (ts : List Tree) → list ≡ before.done ++ ts → AreShown (s ∷ ss) ts
        → AreSpelled language (s ∷ ss) ts → Walked language d list ss old b
    by [] e shown spelled = absurd shown
    by (t ∷ ts) e shown spelled = record {
      done = before.done ++ t ∷ [];
      others = ts;
      list_is = e ∙ sym (append_assoc before.done (t ∷ []) ts);
      shown = shown.1;
      spelled = spelled.1;
      adds = subst (λ ps. Adds ps old b) (sym (all_more d before.done t))
          (adds_both (all_parts d (trees before.done)) (parts d t) old a b before.adds
          (adds t spelled.0 shown.0));
    }

pub walked_more : (language : Language) (d : ℕ) (list : List Tree) (ss : List Shown) (at : ℕ)
    (s : Shown) (old a b : List ShownNode) → at < length ss → s ≡ get_or ss at s
    → ((tree : Tree) → SpellsIn language nesting_limit s.text.now (tree ∷ []) → IsShown s tree
    → Adds (parts d tree) a b)
    → Walked language d list (drop at ss) old a → Walked language d list (drop (at + 1) ss) old b
walked_more language d list ss at s old a b below is adds before =
    one_walked language d list s (drop (at + 1) ss) old a b adds
    (subst (λ xs. Walked language d list xs old a) (from_location ss at s below is) before)

pub walked_end : (language : Language) (d : ℕ) (list : List Tree) (ss : List Shown) (at : ℕ)
    (old new : List ShownNode) → length ss ≤ at → Walked language d list (drop at ss) old new
    → Adds (all_parts d (trees list)) old new
walked_end language d list ss at old new past before =
    by before.others before.list_is
    (subst (λ xs. AreShown xs before.others) (drop_all at ss past) before.shown)
  where
    by : (ts : List Tree) → list ≡ before.done ++ ts → AreShown [] ts
        → Adds (all_parts d (trees list)) old new
    by [] e shown =
        subst (λ x. Adds (all_parts d (trees x)) old new)
        (sym (e ∙ append-nil before.done)) before.adds
    by (t ∷ ts) e shown = absurd shown

-- The nodes of the members so far, and the members that are left.
pub record Listed (d : ℕ) (all : List Tree) (xs : List BorrowedFormatItem) (old new : List ShownNode)
    : Type 0 where
  pub done : List Tree
  pub all_are : all ≡ done ++ item_trees xs
  pub adds : Adds (members d (trees done)) old new

pub listed_first : (d : ℕ) (xs : List BorrowedFormatItem) (ns : List ShownNode)
    → Listed d (item_trees xs) xs ns ns
listed_first d xs ns = record { done = []; all_are = refl; adds = adds_none ns }

pub listed_more : (d : ℕ) (all : List Tree) (xs : List BorrowedFormatItem) (at : ℕ)
    (x : BorrowedFormatItem) (n : ShownNode) (old a b : List ShownNode) → at < length xs
    → x ≡ get_or xs at x → b ≡ a ++ n ∷ [] → IsPiece d (item_tree x) n
    → Listed d all (drop at xs) old a → Listed d all (drop (at + 1) xs) old b
listed_more d all xs at x n old a b below is e piece_is before = record {
  done = before.done ++ item_tree x ∷ [];
  all_are = before.all_are ∙ ap (λ ys. before.done ++ item_trees ys) (from_location xs at x below is)
      ∙ sym (append_assoc before.done (item_tree x ∷ []) (item_trees (drop (at + 1) xs)));
  adds = subst (λ ps. Adds ps old b) (sym (members_more d before.done (item_tree x)))
      (adds_both (members d (trees before.done)) (piece d (item_tree x) ∷ []) old a b before.adds
      (adds_one (piece d (item_tree x)) n a b e piece_is));
}

pub listed_end : (d : ℕ) (all : List Tree) (xs : List BorrowedFormatItem) (at : ℕ)
    (old new : List ShownNode) → length xs ≤ at → Listed d all (drop at xs) old new
    → Adds (members d (trees all)) old new
listed_end d all xs at old new past before =
    subst (λ x. Adds (members d (trees x)) old new)
    (sym (before.all_are ∙ ap (λ ys. before.done ++ item_trees ys) (drop_all at xs past)
    ∙ append-nil before.done)) before.adds
