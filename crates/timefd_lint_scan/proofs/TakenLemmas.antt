-- Where names begin that descriptions are used by.
use Rattle.std.proofs.Common.{ℕ, ◌≡◌, ◌∙◌, ◌||◌, Bool, false, true, List, [], ◌∷◌, ap, refl, sym}
use Rattle.std.specs.Prelude.{if◌then◌else◌}
use Rattle.timefd_lint_scan.specs.declared.description.SourceDescription.{SourceDescription}
use Rattle.timefd_lint_scan.specs.Looks.{AreTaken, is_at, is_taken}

-- Together with those of the rest these are the positions of all.
pub record AreSoFar (all rest : List SourceDescription) (taken : ℕ → Bool) : Type 0 where
  pub so_far : (n : ℕ) → (taken n || is_taken n rest) ≡ is_taken n all

pub at_first : (ds : List SourceDescription) (taken : ℕ → Bool) → ((n : ℕ) → taken n ≡ false) → AreSoFar ds ds taken
at_first ds taken none = record { so_far = λ n. rw (none n) refl }

joined : (here before rest : Bool) → ((here || before) || rest) ≡ (before || (if here then true else rest))
joined true true rest = refl
joined true false rest = refl
joined false true rest = refl
joined false false rest = refl

pub one_more : (all rest : List SourceDescription) (d : SourceDescription) (before now : ℕ → Bool)
    → ((n : ℕ) → now n ≡ (is_at d.call n || before n)) → AreSoFar all (d ∷ rest) before → AreSoFar all rest now
one_more all rest d before now added so_far = record {
  so_far = λ n.
      ap (λ b. b || is_taken n rest) (added n)
      ∙ (joined (is_at d.call n) (before n) (is_taken n rest) ∙ so_far.so_far n);
}

none_left : (taken : Bool) → (taken || false) ≡ taken
none_left true = refl
none_left false = refl

pub at_last : (all : List SourceDescription) (taken : ℕ → Bool) → AreSoFar all [] taken → AreTaken all taken
at_last all taken so_far = record { taken_at = λ n. sym (none_left (taken n)) ∙ so_far.so_far n }
