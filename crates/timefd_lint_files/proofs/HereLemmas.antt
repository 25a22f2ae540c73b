-- Names without the `./` that they begin with.
use Rattle.std.proofs.Common.{◌≡◌, ◌==◌, [], ◌∷◌, ◌++◌, refl, sym, ap, ◌∙◌, codes, inl, inr, eqb-true}
use Rattle.std.proofs.lemmas.Bool.{and_parts, cases_Bool}
use Rattle.std.specs.Str.Pattern.{FindsTextPrefix, LacksTextAt, StripsPrefix}
use Rattle.timefd_lint_files.specs.Matching.{Text}
use Rattle.timefd_lint_files.specs.Starts.{is_here, without_here}

-- one more `./`
pub goes_on : (rest after all : Text) → StripsPrefix (FindsTextPrefix (codes "./")) rest after
    → without_here rest ≡ all → without_here after ≡ all
goes_on rest after all k so_far =
    let whole : rest ≡ codes "./" ++ after = k.1.1 ∙ ap (λ t. codes "./" ++ t) (sym k.2) in
    sym (ap without_here whole) ∙ so_far

same_name : (rest : Text) → LacksTextAt (codes "./") rest 0 → without_here rest ≡ rest
same_name [] lacks = refl
same_name (first ∷ []) lacks = refl
same_name (first ∷ (second ∷ rest)) lacks = elim (cases_Bool (is_here first second)) [
  | inl is ↦
      let parts = and_parts (first == 46) (second == 47) is in
      absurd (lacks rest (ap (λ b. b ∷ (second ∷ rest)) (eqb-true first 46 parts.0)
      ∙ ap (λ b. 46 ∷ (b ∷ rest)) (eqb-true second 47 parts.1)))
  | inr other ↦ rw other refl
]

-- no more `./`
pub stops : (rest all : Text) → LacksTextAt (codes "./") rest 0 → without_here rest ≡ all → rest ≡ all
stops rest all lacks so_far = sym (same_name rest lacks) ∙ so_far
