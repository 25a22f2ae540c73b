-- Two ascending lists as one.
use Rattle.std.proofs.Common.{ℕ, ◌≡◌, ◌∙◌, ◌++◌, List, [], ◌∷◌, ap, append_assoc, append-nil, inl, inr, refl, sym}
use Rattle.std.proofs.lemmas.Bool.{cases_Bool}
use Rattle.timefd_lint_scan.specs.DocLooks.{after_front, front, is_below, merged}

pub none_more : (xs : List ℕ) → merged xs [] ≡ xs
none_more [] = refl
none_more (x ∷ xs) = refl

-- Before a position come those of the other list that are below it.
one_more : (x : ℕ) (xs ys : List ℕ) → merged (x ∷ xs) ys ≡ front (is_below x) ys ++ x ∷ merged xs (after_front (is_below x) ys)
one_more x xs [] = ap (λ ns. x ∷ ns) (sym (none_more xs))
one_more x xs (y ∷ ys) = elim (cases_Bool (is_below x y)) [
  | inl pass ↦ rw pass (ap (λ ns. y ∷ ns) (one_more x xs ys))
  | inr fail ↦ rw fail refl
]

-- Of the positions of one list these are taken, and those of the other are left.
pub record AreSoFar (other taken left all : List ℕ) : Type 0 where
  pub others : (xs : List ℕ) → all ++ merged xs left ≡ merged (taken ++ xs) other

pub at_first : (other : List ℕ) → AreSoFar other [] other []
at_first other = record { others = λ xs. refl }

pub step : (other taken : List ℕ) (x : ℕ) (ys left all pushed now : List ℕ) → pushed ≡ all ++ front (is_below x) ys
    → left ≡ after_front (is_below x) ys → now ≡ pushed ++ x ∷ [] → AreSoFar other taken ys all
    → AreSoFar other (taken ++ x ∷ []) left now
step other taken x ys left all pushed now before after last so_far = record {
  others = λ xs.
      let from : List ℕ → List ℕ = λ l. x ∷ merged xs l in
      ap (λ ns. ns ++ merged xs left) last
      ∙ (append_assoc pushed (x ∷ []) (merged xs left)
      ∙ (ap (λ ns. ns ++ from left) before
      ∙ (append_assoc all (front (is_below x) ys) (from left)
      ∙ (ap (λ l. all ++ (front (is_below x) ys ++ from l)) after
      ∙ (ap (λ ns. all ++ ns) (sym (one_more x xs ys))
      ∙ (so_far.others (x ∷ xs) ∙ ap (λ ns. merged ns other) (sym (append_assoc taken (x ∷ []) xs))))))));
}

pub at_last : (other one left all now : List ℕ) → now ≡ all ++ left → AreSoFar other one left all → now ≡ merged one other
at_last other one left all now pushed so_far =
    pushed ∙ (so_far.others [] ∙ ap (λ ns. merged ns other) (append-nil one))
