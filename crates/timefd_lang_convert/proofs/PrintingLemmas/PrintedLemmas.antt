-- If there is no reason against a tree, its printed text spells it.
use Rattle.std.proofs.Common.{ℕ, suc, zero, ◌≡◌, ◌+◌, ◌-◌, ◌<◌, ◌==◌, cond, Bool, true, false, [], ◌∷◌, Option, Some, None, refl, sym, ap, ◌∙◌, arith}
use Rattle.std.proofs.lemmas.Bool.Decides.{nat_tests}
use Rattle.timefd_lang_component.specs.Tree.{Text, Tree, component, literal, compound, optional, first, Trees, no_trees, more_trees, trees, pack}
use Rattle.timefd_language.specs.Grammar.{Nested, no_nested}
use Rattle.timefd_lang_convert.specs.declared.printing.error.Unspelled.{Unspelled}
use Rattle.timefd_lang_convert.specs.declared.printing.error.Unspelled.TheVariants.{TooDeep, LoneMember}
use Rattle.timefd_lang_convert.specs.Printing.Laws.{Printing}
use Rattle.timefd_lang_convert.specs.Printing.Printed.{printed, printed_all, listed, unpacked}
use Rattle.timefd_lang_convert.specs.Printing.Reasons.{◌or◌, is_run, is_one, deeper, reason, members_reason, member_reason, nested_reason, HasCounts, HaveCounts}
use Rattle.timefd_lang_convert.proofs.PrintingLemmas.Building.{Spelling, none_of, alone, literal_front, component_front, optional_bracket, trees-listed, AreNestedOf, no_nested_of, more_nested, first_bracket}

-- Reasons.

pub or_none : (a b : Option Unspelled) → a or b ≡ None → (a ≡ None) × (b ≡ None)
or_none (Some r) b e = absurd cc
or_none None b e = (refl, e)

some_left : (left : ℕ) → (left == 0) ≡ false → 0 < left
some_left left e = grind (arith, nat_tests)

pub deeper_none : (left : ℕ) (o : Option Unspelled) → deeper left o ≡ None → (0 < left) × (o ≡ None)
deeper_none left o e = by (left == 0) refl e
  where
    by : (t : Bool) → (left == 0) ≡ t → cond t (Some TooDeep) o ≡ None → (0 < left) × (o ≡ None)
    by true is h = absurd cc
    by false is h = (some_left left is, h)

unless_one : (t : Bool) (o : Option Unspelled) → cond t (Some LoneMember) o ≡ None
    → (t ≡ false) × (o ≡ None)
unless_one true o e = absurd cc
unless_one false o e = (refl, e)

pack-listed : (ts : Trees) → is_one ts ≡ false → pack (listed ts) ≡ compound ts
pack-listed no_trees e = refl
pack-listed (more_trees t no_trees) e = absurd cc
pack-listed (more_trees t (more_trees u ts)) e =
    ap (λ x. compound (more_trees t (more_trees u x))) (trees-listed ts)

pub packed : (left : ℕ) (t : Tree) → reason left t ≡ None → pack (unpacked t) ≡ t
packed left (component c) e = refl
packed left (literal bytes) e = refl
packed left (compound ts) e = pack-listed ts (unless_one (is_one ts) _ e).0
packed left (optional format t) e = refl
packed left (first ts) e = refl

-- Trees.

mutual
  content : (limit n left : ℕ) (t : Tree) → n + left ≡ limit → reason left t ≡ None → HasCounts t
      → Spelling limit n false (printed t) (unpacked t)
  content limit n left (component c) room e counts =
      alone limit n _ _ (component_front limit n false c [] [] e counts (none_of limit n false))
  content limit n left (literal bytes) room e counts =
      alone limit n _ _ (literal_front limit n false bytes [] [] e (none_of limit n _))
  content limit n left (compound ts) room e counts =
      members limit n left false ts room (unless_one (is_one ts) _ e).1 counts
  content limit n left (optional format t) room e counts =
      let d = deeper_none left (reason (left - 1) t) e in
      alone limit n _ _ (optional_bracket limit n false format t [] [] (omega (arith, d.0, room))
      (content limit (suc n) (left - 1) t (omega (arith, d.0, room)) d.1 counts)
      (packed (left - 1) t d.1) (none_of limit n false))
  content limit n left (first no_trees) room e counts = absurd cc
  content limit n left (first (more_trees t ts)) room e counts =
      let ns = alternatives limit n left (more_trees t ts) room e counts in
      alone limit n _ _ (first_bracket limit n false t ts ns.0 [] [] ns.1 (none_of limit n false))

  members : (limit n left : ℕ) (after_run : Bool) (ts : Trees) → n + left ≡ limit
      → members_reason left after_run ts ≡ None → HaveCounts ts
      → Spelling limit n after_run (printed_all ts) (listed ts)
  members limit n left after_run no_trees room e counts = none_of limit n after_run
  members limit n left after_run (more_trees t ts) room e counts =
      let p = or_none (member_reason left after_run t) (members_reason left (is_run t) ts) e in
      member limit n left after_run t ts room p.0 counts.0
      (members limit n left (is_run t) ts room p.1 counts.1)

  member : (limit n left : ℕ) (after_run : Bool) (t : Tree) (ts : Trees) → n + left ≡ limit
      → member_reason left after_run t ≡ None → HasCounts t
      → Spelling limit n (is_run t) (printed_all ts) (listed ts)
      → Spelling limit n after_run (printed_all (more_trees t ts)) (t ∷ listed ts)
  member limit n left after_run (component c) ts room e counts rest =
      component_front limit n after_run c (printed_all ts) (listed ts) e counts rest
  member limit n left after_run (literal bytes) ts room e counts rest =
      literal_front limit n after_run bytes (printed_all ts) (listed ts) e rest
  member limit n left after_run (compound us) ts room e counts rest = absurd cc
  member limit n left after_run (optional format t) ts room e counts rest =
      let d = deeper_none left (reason (left - 1) t) e in
      optional_bracket limit n after_run format t (printed_all ts) (listed ts)
      (omega (arith, d.0, room))
      (content limit (suc n) (left - 1) t (omega (arith, d.0, room)) d.1 counts)
      (packed (left - 1) t d.1) rest
  member limit n left after_run (first no_trees) ts room e counts rest = absurd cc
  member limit n left after_run (first (more_trees u us)) ts room e counts rest =
      let ns = alternatives limit n left (more_trees u us) room e counts in
      first_bracket limit n after_run u us ns.0 (printed_all ts) (listed ts) ns.1 rest

  alternatives : (limit n left : ℕ) (ts : Trees) → n + left ≡ limit → nested_reason left ts ≡ None
      → HaveCounts ts → (ns : Nested) × AreNestedOf limit n ts ns
  alternatives limit n left no_trees room e counts = (no_nested, no_nested_of limit n)
  alternatives limit n left (more_trees t ts) room e counts =
      let p = or_none (deeper left (reason (left - 1) t)) (nested_reason left ts) e in
      let d = deeper_none left (reason (left - 1) t) p.0 in
      let rest = alternatives limit n left ts room p.1 counts.1 in
      let inner = content limit (suc n) (left - 1) t (omega (arith, d.0, room)) d.1 counts.0 in (
        _,
        more_nested limit n t ts rest.0 (omega (arith, d.0, room)) inner
            (packed (left - 1) t d.1) rest.1,
      )

pub printing_law : Printing
printing_law limit tree e counts =
    let c = content limit 0 limit tree (omega arith) e counts in
    ((c.0, c.1.are, sym c.1.spelled, sym c.1.same), packed limit tree e)
