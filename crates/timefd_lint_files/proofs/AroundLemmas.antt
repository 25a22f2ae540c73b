-- What comes before the last slash of a path.
use Rattle.std.proofs.Common.{ℕ, suc, ◌≡◌, ◌≢◌, ◌<◌, ◌==◌, Bool, true, false, [], ◌∷◌, ◌++◌, length, take, drop, get_or, refl, sym, ap, subst, ◌∙◌, inl, inr, arith, eqb-true}
use Rattle.std.proofs.lemmas.Bool.{cases_Bool, or_parts}
use Rattle.std.proofs.lemmas.List.{take-append-drop}
use Rattle.std.proofs.lemmas.Str.Pattern.{NoCharPasses-char, drop_at_char}
use Rattle.std.specs.Str.{NoCharPasses}
use Rattle.std.specs.Str.Pattern.{RFindsChar, SplitsAroundMatch}
use Rattle.timefd_lint_files.specs.Around.{before_slash, folder_of}
use Rattle.timefd_lint_files.specs.Lines.{has_slash}
use Rattle.timefd_lint_files.specs.Matching.{Text}

abbrev pub is_slash : ℕ → Bool
is_slash byte = byte == 47

none_of : (text : Text) → ((i : ℕ) → i < length text → get_or text i 0 ≢ 47) → has_slash text ≡ false
none_of [] none = refl
none_of (b ∷ text) none = elim (cases_Bool (b == 47)) [
  | inl is ↦ absurd (none 0 (omega arith) (eqb-true b 47 is))
  | inr other ↦ rw other (none_of text (λ i below. none (suc i) (omega arith)))
]

none_in : (text : Text) → NoCharPasses is_slash text → has_slash text ≡ false
none_in text none = none_of text (λ i below. NoCharPasses-char 47 text i none (omega arith) below)

stands : (front back : Text) → has_slash (front ++ 47 ∷ back) ≡ true
stands [] back = refl
stands (b ∷ front) back = elim (cases_Bool (b == 47)) [
  | inl is ↦ rw is refl
  | inr other ↦ rw other (stands front back)
]

before : (front back : Text) → has_slash back ≡ false → before_slash (front ++ 47 ∷ back) ≡ front
before [] back none = rw none refl
before (b ∷ front) back none = rw (stands front back) (ap (λ t. b ∷ t) (before front back none))

-- the path in two parts
parts : (text front back : Text) → SplitsAroundMatch (RFindsChar 47) text front back
    → (text ≡ front ++ 47 ∷ back) × (has_slash back ≡ false)
parts text front back k =
    let same : back ≡ drop k.1 text = k.4 in
    let at : drop k.0 text ≡ 47 ∷ back = drop_at_char 47 text k.0 k.1 k.2.1 (omega arith)
    ∙ ap (λ t. 47 ∷ t) (sym same) in
    let none : NoCharPasses is_slash back = subst (NoCharPasses is_slash) (sym same) k.2.0 in
    (sym (take-append-drop k.0 text) ∙ (ap (λ t. take k.0 text ++ t) at ∙ ap (λ t. t ++ 47 ∷ back) (sym k.3)), none_in back none)

pub before_last : (text front back : Text) → SplitsAroundMatch (RFindsChar 47) text front back
    → front ≡ before_slash text
before_last text front back k =
    let cut = parts text front back k in sym (ap before_slash cut.0 ∙ before front back cut.1)

nothing_in : (text : Text) → has_slash text ≡ false → [] ≡ before_slash text
nothing_in [] none = refl
nothing_in (b ∷ text) none = let after = or_parts (b == 47) (has_slash text) none in rw after.1 refl

pub nothing_before : (text : Text) → NoCharPasses is_slash text → [] ≡ before_slash text
nothing_before text none = nothing_in text (none_in text none)

pub folder_before : (text front back made : Text) → SplitsAroundMatch (RFindsChar 47) text front back
    → made ≡ front ++ 47 ∷ [] → made ≡ folder_of text
folder_before text front back made k is =
    let cut = parts text front back k in
    let has : has_slash text ≡ true = ap has_slash cut.0 ∙ stands front back in
    is ∙ (ap (λ t. t ++ 47 ∷ []) (before_last text front back k) ∙ rw has refl)

pub no_folder : (text made : Text) → NoCharPasses is_slash text → made ≡ [] → made ≡ folder_of text
no_folder text made none is = is ∙ rw (none_in text none) refl
