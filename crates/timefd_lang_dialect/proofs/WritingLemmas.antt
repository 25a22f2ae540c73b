-- The row whose text of version 3 a description begins with.
use Rattle.std.proofs.Common.{ℕ, ◌≡◌, ◌==◌, cond, Bool, true, false, List, [], ◌∷◌, ◌++◌, Option, Some, None, refl, sym, subst, inl, inr, arith}
use Rattle.std.specs.Borrow.{Bor}
use Rattle.std.specs.Prelude.{not, IfSome, MatchOption, ⊤}
use Rattle.std.proofs.lemmas.Bool.{cases_Bool, and_parts, and_from}
use Rattle.std.proofs.lemmas.Bool.Decides.{nat_tests}
use Rattle.timefd_lang_component.specs.Tree.{Text}
use Rattle.timefd_lang_dialect.specs.declared.dialect.Dialect.{Dialect}
use Rattle.timefd_lang_dialect.specs.declared.dialect.Leading.{Leading}
use Rattle.timefd_lang_dialect.specs.declared.dialect.Leading.TheVariants.{Percent, Bare}
use Rattle.timefd_lang_dialect.specs.declared.row.Row.{Row}
use Rattle.timefd_lang_dialect.specs.Best.{writes, none_writes, is_better, best_of, best_with, best_from, best_at, Lacks}
use Rattle.timefd_lang_dialect.specs.Dialects.{leading_of, unknown_rows}
use Rattle.timefd_lang_dialect.specs.Groups.{Group, all_rows, keys_of, rows_at}
use Rattle.timefd_lang_dialect.specs.Rows.{Entry, entry_of, found_entry}
use Rattle.timefd_lang_dialect.specs.Tables.{groups_of}
use Rattle.timefd_lang_dialect.proofs.ByteLemmas.{is_apart}
use Rattle.timefd_lang_dialect.proofs.GroupLemmas.{are_keyed, parts, all_keyed}

abbrev Writes : Text → Entry → Type 0
Writes text row = writes row text ≡ true

-- What is found is at the front.

of_writes : (text : Text) (best : Option Entry) (row : Entry) → IfSome best (Writes text)
    → Writes text row → Writes text (best_of best row)
of_writes text None row so_far is = is
of_writes text (Some best) row so_far is = by (is_better row best)
  where
    by : (t : Bool) → Writes text (cond t row best)
    by true = is
    by false = so_far

with_writes : (text : Text) (best : Option Entry) (row : Entry) → IfSome best (Writes text)
    → IfSome (best_with best row text) (Writes text)
with_writes text best row so_far = elim (cases_Bool (writes row text)) [
  | inl is ↦ rw is (of_writes text best row so_far is)
  | inr not ↦ rw not so_far
]

from_writes : (text : Text) (best : Option Entry) (rows : List Entry) → IfSome best (Writes text)
    → IfSome (best_from best rows text) (Writes text)
from_writes text best [] so_far = so_far
from_writes text best (row ∷ rows) so_far =
    from_writes text (best_with best row text) rows (with_writes text best row so_far)

at_writes : (text : Text) (best : Option Entry) (bytes : List ℕ) (gs : List Group)
    → IfSome best (Writes text) → IfSome (best_at best bytes gs text) (Writes text)
at_writes text best [] gs so_far = so_far
at_writes text best (b ∷ bytes) gs so_far =
    at_writes text (best_from best (rows_at b gs) text) bytes gs
    (from_writes text best (rows_at b gs) so_far)

-- If nothing is found, no row's text is at the front.

none_from : (text : Text) (best : Option Entry) (rows : List Entry)
    → best_from best rows text ≡ None → (best ≡ None) × (none_writes rows text ≡ true)
none_from text best [] e = (e, refl)
none_from text best (row ∷ rows) e =
    let more = none_from text (best_with best row text) rows e in
    elim (cases_Bool (writes row text)) [
      | inl is ↦ absurd (found (best_of best row) (subst (λ t. cond t (Some (best_of best row)) best ≡ None) is more.0))
      | inr not ↦ (
        subst (λ t. cond t (Some (best_of best row)) best ≡ None) not more.0,
        rw not more.1,
      )
    ]
  where
    found : (row : Entry) → ¬ (Some row ≡ None)
    found row e = cc

abbrev NoneAt : Text → List ℕ → List Group → Type 0
NoneAt text [] gs = ⊤
NoneAt text (b ∷ bytes) gs = (none_writes (rows_at b gs) text ≡ true) × NoneAt text bytes gs

none_at : (text : Text) (best : Option Entry) (bytes : List ℕ) (gs : List Group)
    → best_at best bytes gs text ≡ None → (best ≡ None) × NoneAt text bytes gs
none_at text best [] gs e = (e, tt)
none_at text best (b ∷ bytes) gs e =
    let more = none_at text (best_from best (rows_at b gs) text) bytes gs e in
    let one = none_from text best (rows_at b gs) more.0 in
    (one.0, (one.1, more.1))

-- the rows of other groups stay when one group is left out
without_first : (text : Text) (g : Group) (gs hs : List Group) → is_apart g.key hs ≡ true
    → NoneAt text (keys_of hs) (g ∷ gs) → NoneAt text (keys_of hs) gs
without_first text g gs [] e all = tt
without_first text g gs (h ∷ hs) e all =
    let p = and_parts (not (g.key == h.key)) _ e in (
      subst (λ t. none_writes (cond t g.rows (rows_at h.key gs)) text ≡ true)
          (differ g.key h.key p.0) all.0,
      without_first text g gs hs p.1 all.1,
    )
  where
    differ : (a b : ℕ) → not (a == b) ≡ true → (b == a) ≡ false
    differ a b e = grind (arith, nat_tests)

none_append : (text : Text) (a b : List Entry) → none_writes a text ≡ true
    → none_writes b text ≡ true → none_writes (a ++ b) text ≡ true
none_append text [] b one other = other
none_append text (row ∷ a) b one other =
    let p = and_parts (not (writes row text)) _ one in
    and_from (not (writes row text)) _ p.0 (none_append text a b p.1 other)

none_of_all : (leading : Leading) (text : Text) (gs : List Group) → are_keyed leading gs ≡ true
    → NoneAt text (keys_of gs) gs → none_writes (all_rows gs) text ≡ true
none_of_all leading text [] e all = refl
none_of_all leading text (g ∷ gs) e all =
    let p = parts leading g gs e in
    none_append text g.rows (all_rows gs)
    (subst (λ t. none_writes (cond t g.rows (rows_at g.key gs)) text ≡ true) (same g.key) all.0)
    (none_of_all leading text gs p.more (without_first text g gs gs p.apart all.1))
  where
    same : (a : ℕ) → (a == a) ≡ true
    same a = grind (arith, nat_tests)

none_unknown : (leading : Leading) (text : Text) → none_writes (unknown_rows leading) text ≡ true
none_unknown Percent text = refl
none_unknown Bare text = refl

pub found_writing : (dialect : Dialect) (text : Text) (keys : List ℕ) (found : Option (Bor Row))
    → keys ≡ keys_of (groups_of dialect)
    → found_entry found ≡ best_at None keys (groups_of dialect) text
    → MatchOption found (Lacks dialect text) (λ row. writes (entry_of row.now) text ≡ true)
found_writing dialect text keys None is e =
    let gs = groups_of dialect in
    none_append text (all_rows gs) (unknown_rows (leading_of dialect))
    (none_of_all (leading_of dialect) text gs (all_keyed dialect)
    (subst (λ ks. NoneAt text ks gs) is (none_at text None keys gs (sym e)).1))
    (none_unknown (leading_of dialect) text)
found_writing dialect text keys (Some row) is e =
    subst (λ o. IfSome o (Writes text)) (sym e) (at_writes text None keys (groups_of dialect) tt)
