-- Lists that are put together in a walk over the items of another.
use Rattle.std.proofs.Common.{ℕ, ◌≡◌, ◌∙◌, ◌+◌, ◌<◌, ◌≤◌, ◌++◌, List, ◌∷◌, ap, append_assoc, append-nil, drop, get_or, length, refl, sym}
use Rattle.std.proofs.lemmas.List.{drop_all, drop_more}
use Rattle.std.specs.List.{flat_map}

-- what the items before an index give
abbrev pub AreSoFar : {X Y : Type 0} → (X → List Y) → List X → ℕ → List Y → Type 0
AreSoFar of all i got = got ++ flat_map of (drop i all) ≡ flat_map of all

pub one_more : {X Y : Type 0} (of : X → List Y) (all : List X) (i : ℕ) (item other : X) (got now : List Y)
    → i < length all → item ≡ get_or all i other → now ≡ got ++ of item → AreSoFar of all i got
    → AreSoFar of all (i + 1) now
one_more {X} of all i item other got now below at pushed so_far =
    let after : List X = drop (i + 1) all in
    let left : drop i all ≡ item ∷ after = drop_more all i other below ∙ ap (λ x. x ∷ after) (sym at) in
    ap (λ ys. ys ++ flat_map of after) pushed
    ∙ (append_assoc got (of item) (flat_map of after)
    ∙ (ap (λ items. got ++ flat_map of items) (sym left) ∙ so_far))

-- One step further: what the item at an index gives.
pub one_more_at : {X Y : Type 0} (of : X → List Y) (all : List X) (i : ℕ) (other : X) (got now : List Y)
    → i < length all → now ≡ got ++ of (get_or all i other) → AreSoFar of all i got
    → AreSoFar of all (i + 1) now
one_more_at of all i other got now below pushed so_far =
    one_more of all i (get_or all i other) other got now below refl pushed so_far

pub at_last : {X Y : Type 0} (of : X → List Y) (all : List X) (i : ℕ) (got : List Y) → length all ≤ i
    → AreSoFar of all i got → got ≡ flat_map of all
at_last of all i got none so_far =
    sym (append-nil got) ∙ (ap (λ items. got ++ flat_map of items) (sym (drop_all i all none)) ∙ so_far)
