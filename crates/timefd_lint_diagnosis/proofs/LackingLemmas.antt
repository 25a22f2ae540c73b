-- A word that lacks this many characters of another is at least as many edits away.
use Rattle.std.proofs.Common.{ℕ, zero, suc, ◌≡◌, ◌≤◌, ◌+◌, List, [], ◌∷◌, ◌++◌, append_assoc, refl, sym, ap, subst, ◌∙◌, arith}
use Rattle.std.specs.Prelude.{Bool, true, false, chars, nat_eq, ◌||◌, if◌then◌else◌}
use Rattle.std.specs.List.{list_any}
use Rattle.std.proofs.lemmas.Bool.Decides.{nat_tests}
use Rattle.timefd_parse.specs.Tree.{Text}
use Rattle.timefd_lint_diagnosis.specs.Edits.{IsChange, put_in, taken_away, replaced, swapped, IsEdit, IsMadeBy}
use Rattle.timefd_lint_diagnosis.specs.Nearest.{lack_of, lacking, IsAsFarAs}

at_most_one : (b : Bool) → (if b then 0 else 1) ≤ 1
at_most_one true = omega arith
at_most_one false = omega arith

lacking_append : (others a b : List ℕ) → lacking others (a ++ b) ≡ lacking others a + lacking others b
lacking_append others [] b = omega arith
lacking_append others (c ∷ a) b = omega (arith, lacking_append others a b)

lacking_change : (others old new : List ℕ) → IsChange old new
    → lacking others old ≤ lacking others new + 1
lacking_change others _ _ (put_in c) = omega arith
lacking_change others _ _ (taken_away c) =
    omega (arith, at_most_one (list_any (nat_eq c) others))
lacking_change others _ _ (replaced c d) =
    omega (arith, at_most_one (list_any (nat_eq c) others))
lacking_change others _ _ (swapped c d) = omega arith

lacking_edit : (others a b : List ℕ) → IsEdit a b → lacking others a ≤ lacking others b + 1
lacking_edit others a b e =
    omega (
      arith,
      ap (lacking others) e.5,
      ap (lacking others) e.6,
      lacking_append others e.0 (e.2 ++ e.1),
      lacking_append others e.2 e.1,
      lacking_append others e.0 (e.3 ++ e.1),
      lacking_append others e.3 e.1,
      lacking_change others e.2 e.3 e.4,
    )

lacking_made : (n : ℕ) (others a b : List ℕ) → IsMadeBy n a b
    → lacking others a ≤ lacking others b + n
lacking_made zero others a b e = omega (arith, ap (lacking others) e)
lacking_made (suc n) others a b (c, edit, rest) =
    omega (arith, lacking_edit others a c edit, lacking_made n others c b rest)

among : (c : ℕ) (front back : List ℕ) → list_any (nat_eq c) (front ++ c ∷ back) ≡ true
among c [] back = grind (arith, nat_tests)
among c (d ∷ front) back = either (nat_eq c d) (among c front back)
  where
    either : (x : Bool) {y : Bool} → y ≡ true → (x || y) ≡ true
    either true e = refl
    either false e = e

lacks_none : (front cs : List ℕ) → lacking (front ++ cs) cs ≡ 0
lacks_none front [] = refl
lacks_none front (c ∷ cs) =
    let rest : lacking (front ++ c ∷ cs) cs ≡ 0 =
    subst (λ l. lacking l cs ≡ 0) (append_assoc front (c ∷ []) cs) (lacks_none (front ++ c ∷ []) cs) in
    rw (among c front cs) (omega (arith, rest))

pub lacking_far : (word w : Text) (n : ℕ) → n ≤ lacking (chars w) (chars word)
    → IsAsFarAs n word w
lacking_far word w n within m made =
    omega (arith, lacking_made m (chars w) (chars word) (chars w) made, lacks_none [] (chars w))

-- one more character
pub one_more_lack : (others cs rest : List ℕ) (c count lack next total : ℕ) → cs ≡ c ∷ rest
    → lack ≡ lack_of others c → next ≤ count + lack → count + lacking others cs ≤ total
    → next + lacking others rest ≤ total
one_more_lack others cs rest c count lack next total is e one so_far =
    omega (arith, ap (lacking others) is, e, one, so_far)
