-- Pieces that are shown one after another.
use Rattle.std.proofs.Common.{rules, true, false, IsTrue, ◌≡◌, ◌∙◌, ℕ, zero, suc, ◌+◌, ◌<◌, ◌≤◌, List, [], ◌∷◌, ◌++◌, length, map, drop, get_or, refl, sym, ap, subst, arith, add-one, drop-cons, append_assoc, append-nil, length-append}
use Rattle.std.proofs.lemmas.Bool.{and_parts, false≢true}
use Rattle.std.proofs.lemmas.List.{drop_all}
use Rattle.std.specs.Borrow.{Bor}
use Rattle.std.specs.declared.vec.Vec.{Vec}
use Rattle.std.specs.declared.alloc.Global.{Global}
use Rattle.timefd_lang_node_list.specs.declared.item.borrowed_format_item.BorrowedFormatItem.{BorrowedFormatItem}
use Rattle.timefd_lang_node_list.specs.declared.item.borrowed_format_item.BorrowedFormatItem.TheVariants as items
use Rattle.timefd_lang_node_list.specs.declared.item.borrowed_format_item.BorrowedFormatItem.TheFolds.{the_lemmas}
use Rattle.timefd_lang_node_list.specs.Item.Meaning.{item_tree}
use Rattle.timefd_items.specs.Description.{description_tree}
use Rattle.timefd_items.specs.declared.format_description_v3.FormatDescriptionV3.{FormatDescriptionV3}
use Rattle.timefd_language.specs.declared.description_version.DescriptionVersion.{DescriptionVersion}
use Rattle.timefd_language.specs.declared.description_version.DescriptionVersion.TheVariants.{One, Two, Three}
use Rattle.timefd_parse.specs.Answers.{IsOutput}
use Rattle.timefd_parse.specs.declared.parsing.BorrowedOutput.{BorrowedOutput}
use Rattle.timefd_parse.specs.declared.parsing.BorrowedOutput.TheVariants as outputs
use Rattle.timefd_lang_component.specs.Reserved.{reserve_all}
use Rattle.timefd_lang_component.specs.Tree.{Text, Tree, compound, optional, pack, trees}
use Rattle.timefd_language.specs.Grammar.{nesting_limit}
use Rattle.timefd_language.specs.Strings.{are_of_strings, is_of_strings}
use Rattle.timefd_lang_node_list.specs.Nodes.{kept_bytes}
use Rattle.timefd_parse.specs.FirstPiece.{BeginsList}
use Rattle.timefd_parse.specs.Language.{SpellsIn}
use Rattle.timefd_language.specs.declared.description_version.Language.{Language}
use Rattle.timefd_lint_explain.specs.declared.piece.Shown.{Shown}
use Rattle.timefd_lint_explain.specs.Shown.{AreShown, AreSpelled, IsShown, Shows, ShowsOne, texts}

texts_more : (ss : List Shown) (s : Shown) → texts (ss ++ s ∷ []) ≡ texts ss ++ s.text.now
texts_more [] s = append-nil s.text.now
texts_more (r ∷ ss) s =
    ap (λ t. r.text.now ++ t) (texts_more ss s)
    ∙ sym (append_assoc r.text.now (texts ss) s.text.now)

shown_more : (ss : List Shown) (ts : List Tree) (s : Shown) (t : Tree) → AreShown ss ts
    → IsShown s t → AreShown (ss ++ s ∷ []) (ts ++ t ∷ [])
shown_more [] [] s t are is = (is, tt)
shown_more [] (u ∷ ts) s t are is = absurd are
shown_more (r ∷ ss) [] s t are is = absurd are
shown_more (r ∷ ss) (u ∷ ts) s t are is = (are.0, shown_more ss ts s t are.1 is)

spelled_more : (l : Language) (ss : List Shown) (ts : List Tree) (s : Shown) (t : Tree)
    → AreSpelled l ss ts → SpellsIn l nesting_limit s.text.now (t ∷ [])
    → AreSpelled l (ss ++ s ∷ []) (ts ++ t ∷ [])
spelled_more l [] [] s t are is = (is, tt)
spelled_more l [] (u ∷ ts) s t are is = absurd are
spelled_more l (r ∷ ss) [] s t are is = absurd are
spelled_more l (r ∷ ss) (u ∷ ts) s t are is = (are.0, spelled_more l ss ts s t are.1 is)

-- The pieces so far, and the list that the rest spells.
pub record Continues (language : Language) (text : Text) (list : List Tree) (shown : List Shown)
    (rest : Text) : Type 0 where
  pub done : List Tree
  pub others : List Tree
  pub list_is : list ≡ done ++ others
  pub whole : texts shown ++ rest ≡ text
  pub each : AreShown shown done
  pub spelled : AreSpelled language shown done
  pub after : SpellsIn language nesting_limit rest others

pub continues_first : (language : Language) (text : Text) (list : List Tree)
    → SpellsIn language nesting_limit text list → Continues language text list [] text
continues_first language text list s = record {
  done = [];
  others = list;
  list_is = refl;
  whole = refl;
  each = tt;
  spelled = tt;
  after = s;
}

pub continues_more : (language : Language) (text : Text) (list : List Tree) (shown : List Shown)
    (rest piece later : Text) (s : Shown) → Continues language text list shown rest
    → piece ++ later ≡ rest
    → ((others : List Tree) → SpellsIn language nesting_limit rest others
    → BeginsList language piece later others)
    → ((tree : Tree) → SpellsIn language nesting_limit piece (tree ∷ []) → ShowsOne piece s tree)
    → Continues language text list (shown ++ s ∷ []) later
continues_more language text list shown rest piece later s before joined begins shows =
    let b = begins before.others before.after in
    let one = shows b.tree b.first in record {
      done = before.done ++ b.tree ∷ [];
      others = b.others;
      list_is = before.list_is ∙ ap (λ ts. before.done ++ ts) b.whole
          ∙ sym (append_assoc before.done (b.tree ∷ []) b.others);
      whole = ap (λ t. t ++ later) (texts_more shown s ∙ ap (λ t. texts shown ++ t) one.0)
          ∙ append_assoc (texts shown) piece later ∙ ap (λ t. texts shown ++ t) joined
          ∙ before.whole;
      each = shown_more shown before.done s b.tree before.each one.1;
      spelled = spelled_more language shown before.done s b.tree before.spelled
          (subst (λ t. SpellsIn language nesting_limit t (b.tree ∷ [])) (sym one.0) b.first);
      after = b.after;
    }

pub continues_end : (language : Language) (text : Text) (list : List Tree) (shown : List Shown)
    (rest : Text) → Continues language text list shown rest
    → ((others : List Tree) → SpellsIn language nesting_limit rest others
    → (others ≡ []) × (rest ≡ []))
    → Shows language text list shown
continues_end language text list shown rest before ends =
    let e = ends before.others before.after in
    let list_is : list ≡ before.done =
    before.list_is ∙ ap (λ ts. before.done ++ ts) e.0 ∙ append-nil before.done in record {
      whole = sym (append-nil (texts shown)) ∙ ap (λ t. texts shown ++ t) (sym e.1)
          ∙ before.whole;
      each = subst (AreShown shown) (sym list_is) before.each;
      spelled = subst (AreSpelled language shown) (sym list_is) before.spelled;
    }

one_longer : (ss : List Shown) (s : Shown) → length (texts (ss ++ s ∷ []))
    ≡ length (texts ss) + length s.text.now
one_longer ss s = ap length (texts_more ss s) ∙ length-append (texts ss) s.text.now

pub within_more : (ss items : List Shown) (s : Shown) (rest piece after text : Text)
    → items ≡ ss ++ s ∷ [] → s.text.now ≡ piece → piece ++ after ≡ rest
    → length (texts ss) + length rest ≤ length text
    → length (texts items) + length after ≤ length text
within_more ss items s rest piece after text e is joined within =
    omega (
      arith,
      within,
      ap (λ x. length (texts x)) e,
      one_longer ss s,
      ap length is,
      ap length joined,
      length-append piece after,
    )

-- A piece is at most as long as all of them together.
pub piece_within : (ss : List Shown) (at : ℕ) (s : Shown) → at < length ss → s ≡ get_or ss at s
    → length s.text.now ≤ length (texts ss)
piece_within [] at s below is = absurd (omega (arith, below))
piece_within (r ∷ ss) zero s below is =
    omega (arith, ap (λ x. length x.text.now) is, length-append r.text.now (texts ss))
piece_within (r ∷ ss) (suc at) s below is =
    omega (
      arith,
      piece_within ss at s (omega (arith, below)) is,
      length-append r.text.now (texts ss),
    )

-- Bytes.

abbrev pub sum : List Shown → ℕ
sum [] = 0
sum (s ∷ ss) = s.bytes + sum ss

sum_at : (ss : List Shown) (at : ℕ) (s : Shown) → at < length ss → s ≡ get_or ss at s
    → sum (drop at ss) ≡ s.bytes + sum (drop (at + 1) ss)
sum_at ss at s below is =
    let head : drop at ss ≡ get_or ss at s ∷ drop (at + 1) ss =
    rw add-one (drop-cons ss at s below) in
    ap sum (head ∙ ap (λ y. y ∷ drop (at + 1) ss) (sym is))

pub sum_step : (ss : List Shown) (at : ℕ) (s : Shown) (bytes next total : ℕ) → at < length ss
    → s ≡ get_or ss at s → next ≡ kept_bytes (bytes + s.bytes)
    → kept_bytes (bytes + sum (drop at ss)) ≡ total
    → kept_bytes (next + sum (drop (at + 1) ss)) ≡ total
sum_step ss at s bytes next total below is next_is so_far =
    omega (arith, next_is, so_far, sum_at ss at s below is)

pub sum_end : (ss : List Shown) (at bytes total : ℕ) → length ss ≤ at → bytes ≡ kept_bytes bytes
    → kept_bytes (bytes + sum (drop at ss)) ≡ total → bytes ≡ total
sum_end ss at bytes total past capped all =
    omega (arith, capped, all, ap sum (drop_all at ss past))

-- The sum of the pieces' bytes is what the trees reserve.
pub sum_is : (ss : List Shown) (list : List Tree) → AreShown ss list
    → kept_bytes (sum ss) ≡ kept_bytes (reserve_all (trees list))
sum_is [] [] are = refl
sum_is [] (t ∷ ts) are = absurd are
sum_is (s ∷ ss) [] are = absurd are
sum_is (s ∷ ss) (t ∷ ts) are = omega (arith, are.0.bytes, sum_is ss ts are.1)

-- Items, and what is found for one piece.

-- A literal of bytes isn't a string.
pub no_bytes : (item : BorrowedFormatItem) (bytes : Bor (List ℕ)) → item ≡ items.Literal bytes
    → IsTrue (is_of_strings item) → ⊥
no_bytes item bytes e is =
    let none : is_of_strings (items.Literal bytes) ≡ false = search (rules, the_lemmas) in
    false≢true (sym none ∙ ap is_of_strings (sym e) ∙ is)

pub compound_strings : (item : BorrowedFormatItem) (members : Bor (List BorrowedFormatItem))
    → item ≡ items.Compound members → IsTrue (is_of_strings item)
    → IsTrue (are_of_strings members.now)
compound_strings item members e is =
    let all : is_of_strings (items.Compound members) ≡ are_of_strings members.now =
    search (rules, the_lemmas) in
    sym all ∙ ap is_of_strings (sym e) ∙ is

pub each_string : (xs : List BorrowedFormatItem) (at : ℕ) (x : BorrowedFormatItem)
    → at < length xs → x ≡ get_or xs at x → IsTrue (are_of_strings xs) → IsTrue (is_of_strings x)
each_string [] at x below is are = absurd (omega (arith, below))
each_string (y ∷ xs) zero x below is are =
    subst (λ z. IsTrue (is_of_strings z)) (sym is)
    (and_parts (is_of_strings y) (are_of_strings xs) are).0
each_string (y ∷ xs) (suc at) x below is are =
    each_string xs at x (omega (arith, below)) is
    (and_parts (is_of_strings y) (are_of_strings xs) are).1

pub compound_tree : (members : Bor (List BorrowedFormatItem))
    → item_tree (items.Compound members) ≡ compound (trees (map item_tree members.now))
compound_tree members = search (rules, the_lemmas)

pub optional_tree : (member : Bor BorrowedFormatItem)
    → item_tree (items.Optional member) ≡ optional true (item_tree member.now)
optional_tree member = search (rules, the_lemmas)

pub description_of : (v : DescriptionVersion) (list : List Tree) (output : BorrowedOutput)
    (d : FormatDescriptionV3) → output ≡ outputs.Description d → IsOutput v list output
    → description_tree d ≡ pack list
description_of v list output d e is = reported v (subst (IsOutput v list) e is)
  where
    reported : (v : DescriptionVersion) → IsOutput v list (outputs.Description d)
        → description_tree d ≡ pack list
    reported One is = absurd is
    reported Two is = absurd is
    reported Three is = is

pub items_of : (v : DescriptionVersion) (list : List Tree) (output : BorrowedOutput)
    (read : Vec BorrowedFormatItem Global) → output ≡ outputs.Items read → IsOutput v list output
    → map item_tree read.items ≡ list
items_of v list output read e is = reported v (subst (IsOutput v list) e is)
  where
    reported : (v : DescriptionVersion) → IsOutput v list (outputs.Items read)
        → map item_tree read.items ≡ list
    reported One is = is
    reported Two is = is
    reported Three is = absurd is

pub some_item : (xs : List BorrowedFormatItem) → (length xs ≡ 0 → ⊥) → 0 < length xs
some_item [] some = absurd (some refl)
some_item (x ∷ xs) some = omega arith
