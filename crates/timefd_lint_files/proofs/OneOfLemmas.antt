-- What is so of one of the rest of a list.
use Rattle.std.proofs.Common.{◌≡◌, inl, inr, ℕ, zero, suc, List, [], ◌∷◌, drop, take, subst}
use Rattle.timefd_lint_files.specs.Errors.{OneOf}

-- What is so of one of the rest is so of one of all.
abbrev pub IsOneTo : {X : Type 0} → (X → Type 0) → List X → List X → Type 0
IsOneTo Is all rest = OneOf Is rest → OneOf Is all

-- It is so of one of those after the first ones.
pub of_dropped : {X : Type 0} (Is : X → Type 0) (all : List X) (count : ℕ) → OneOf Is (drop count all) → OneOf Is all
of_dropped Is all zero is = is
of_dropped Is [] (suc count) is = is
of_dropped Is (one ∷ others) (suc count) is = inr (of_dropped Is others count is)

of_taken : {X : Type 0} (Is : X → Type 0) (all : List X) (count : ℕ) → OneOf Is (take count all) → OneOf Is all
of_taken Is all zero is = absurd is
of_taken Is [] (suc count) is = is
of_taken Is (one ∷ others) (suc count) (inl first) = inl first
of_taken Is (one ∷ others) (suc count) (inr later) = inr (of_taken Is others count later)

-- It is so of one of those after the first one, as a pattern names them.
pub of_after : {X : Type 0} (Is : X → Type 0) (rest : List X) (count : ℕ) → OneOf Is (take count (drop 1 rest))
    → OneOf Is rest
of_after Is rest count is = of_dropped Is rest 1 (of_taken Is (drop 1 rest) count is)

pub after_first : {X : Type 0} (Is : X → Type 0) (all rest : List X) (count : ℕ) → IsOneTo Is all rest
    → IsOneTo Is all (take count (drop 1 rest))
after_first Is all rest count so_far is = so_far (of_after Is rest count is)

pub after_some : {X : Type 0} (Is : X → Type 0) (all rest others : List X) (count : ℕ) → others ≡ drop count rest
    → IsOneTo Is all rest → IsOneTo Is all others
after_some Is all rest others count dropped so_far is = so_far (of_dropped Is rest count (subst (OneOf Is) dropped is))
