-- One more member.
use Rattle.std.proofs.Common.{ℕ, ◌≡◌, ◌≢◌, ◌↔◌, IsTrue, ◌≤◌, ◌+◌, ◌-◌, Bool, true, false, List, [], ◌∷◌, ◌++◌, length, Option, Some, None, refl, sym, ap, ◌∙◌, append_assoc, arith}
use Rattle.std.proofs.lemmas.Bool.{both_ways}
use Rattle.timefd_lang_component.specs.Reserved.{tree_count, trees_count}
use Rattle.timefd_lang_component.specs.Tree.{Text, Tree, compound, first, trees}
use Rattle.timefd_lang_convert.specs.declared.printing.error.Unspelled.{Unspelled}
use Rattle.timefd_lang_convert.specs.declared.printing.error.Unspelled.TheVariants.{LoneMember}
use Rattle.timefd_lang_convert.specs.Printing.Printed.{printed, printed_all, nested, nested_all}
use Rattle.timefd_lang_convert.specs.Printing.Reasons.{◌or◌, is_run, deeper, reason, members_reason, member_reason, nested_reason}

-- Reasons.

or_second : (a b : Option Unspelled) → None ≡ a → a or b ≡ b
or_second a b e = ap (λ x. x or b) (sym e)

or_first : (a b : Option Unspelled) (r : Unspelled) → Some r ≡ a → a or b ≡ Some r
or_first a b r e = ap (λ x. x or b) (sym e)

pub members-next : (left : ℕ) (after_run next : Bool) (t : Tree) (all rest : List Tree)
    (whole : Option Unspelled) → all ≡ t ∷ rest → None ≡ member_reason left after_run t
    → next ≡ is_run t → members_reason left after_run (trees all) ≡ whole
    → members_reason left next (trees rest) ≡ whole
members-next left after_run next t all rest whole is none run so_far =
    ap (λ r. members_reason left r (trees rest)) run
    ∙ sym (or_second (member_reason left after_run t) _ none)
    ∙ ap (λ x. members_reason left after_run (trees x)) (sym is) ∙ so_far

pub members-found : (left : ℕ) (after_run : Bool) (t : Tree) (all rest : List Tree)
    (whole : Option Unspelled) (r : Unspelled) → all ≡ t ∷ rest
    → Some r ≡ member_reason left after_run t
    → members_reason left after_run (trees all) ≡ whole → Some r ≡ whole
members-found left after_run t all rest whole r is some so_far =
    sym (or_first (member_reason left after_run t) (members_reason left (is_run t) (trees rest)) r
    some) ∙ ap (λ x. members_reason left after_run (trees x)) (sym is) ∙ so_far

pub alternatives-next : (left : ℕ) (t : Tree) (all rest : List Tree) (whole : Option Unspelled)
    → all ≡ t ∷ rest → None ≡ deeper left (reason (left - 1) t)
    → nested_reason left (trees all) ≡ whole → nested_reason left (trees rest) ≡ whole
alternatives-next left t all rest whole is none so_far =
    sym (or_second (deeper left (reason (left - 1) t)) _ none)
    ∙ ap (λ x. nested_reason left (trees x)) (sym is) ∙ so_far

pub alternatives-found : (left : ℕ) (t : Tree) (all rest : List Tree) (whole : Option Unspelled)
    (r : Unspelled) → all ≡ t ∷ rest → Some r ≡ deeper left (reason (left - 1) t)
    → nested_reason left (trees all) ≡ whole → Some r ≡ whole
alternatives-found left t all rest whole r is some so_far =
    sym (or_first (deeper left (reason (left - 1) t)) (nested_reason left (trees rest)) r some)
    ∙ ap (λ x. nested_reason left (trees x)) (sym is) ∙ so_far

-- Texts.

pub printed-next : (t : Tree) (all rest : List Tree) (old new whole : Text) → all ≡ t ∷ rest
    → new ≡ old ++ printed t → old ++ printed_all (trees all) ≡ whole
    → new ++ printed_all (trees rest) ≡ whole
printed-next t all rest old new whole is one so_far =
    ap (λ x. x ++ printed_all (trees rest)) one
    ∙ append_assoc old (printed t) (printed_all (trees rest))
    ∙ ap (λ x. old ++ printed_all (trees x)) (sym is) ∙ so_far

pub nested-next : (t : Tree) (all rest : List Tree) (old new whole : Text) → all ≡ t ∷ rest
    → new ≡ old ++ nested (printed t) → old ++ nested_all (trees all) ≡ whole
    → new ++ nested_all (trees rest) ≡ whole
nested-next t all rest old new whole is one so_far =
    ap (λ x. x ++ nested_all (trees rest)) one
    ∙ append_assoc old (nested (printed t)) (nested_all (trees rest))
    ∙ ap (λ x. old ++ nested_all (trees x)) (sym is) ∙ so_far

pub count-next : (t : Tree) (all rest : List Tree) (n : ℕ) → all ≡ t ∷ rest
    → trees_count (trees all) ≤ n → trees_count (trees rest) ≤ n
count-next t all rest n is within =
    let e : trees_count (trees all) ≡ tree_count t + trees_count (trees rest) =
    ap (λ x. trees_count (trees x)) is in
    omega (arith, e, within)

pub count-first : (t : Tree) (all rest : List Tree) (n : ℕ) → all ≡ t ∷ rest
    → trees_count (trees all) ≤ n → tree_count t ≤ n
count-first t all rest n is within =
    let e : trees_count (trees all) ≡ tree_count t + trees_count (trees rest) =
    ap (λ x. trees_count (trees x)) is in
    omega (arith, e, within)

-- Lengths.

-- a compound of one member
pub lone_found : (ts : List Tree) (left n : ℕ) → n ≡ length ts → n ≡ 1
    → Some LoneMember ≡ reason left (compound (trees ts))
lone_found [] left n len one = absurd (omega (arith, len, one))
lone_found (t ∷ []) left n len one = refl
lone_found (t ∷ u ∷ ts) left n len one = absurd (omega (arith, len, one))

pub lone_none : (ts : List Tree) (left n : ℕ) (r : Option Unspelled) → n ≡ length ts → n ≢ 1
    → r ≡ members_reason left false (trees ts) → r ≡ reason left (compound (trees ts))
lone_none [] left n r len more is = is
lone_none (t ∷ []) left n r len more is = absurd (more len)
lone_none (t ∷ u ∷ ts) left n r len more is = is

-- at least one alternative
pub some_alternative : (ts : List Tree) (left : ℕ) (e : Bool) (r : Option Unspelled)
    → (IsTrue e ↔ (ts ≡ [])) → e ≡ false → r ≡ nested_reason left (trees ts)
    → r ≡ reason left (first (trees ts))
some_alternative [] left e r empty some is = absurd (both_ways e some (empty.1 refl))
some_alternative (t ∷ ts) left e r empty some is = is
