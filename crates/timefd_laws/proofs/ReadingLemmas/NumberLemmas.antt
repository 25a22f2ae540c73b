-- Numbers are read back.
use Rattle.std.proofs.Common.{ℕ, ◌≡◌, ◌∙◌, ◌≤◌, ◌<◌, ◌^◌, ◌++◌, ◌⊎◌, inl, inr, length, Some, refl, ap, arith}
use Rattle.timefd_lang_component.specs.Texts.{filled}
use Rattle.timefd_lang_component.specs.Tree.{Text}
use Rattle.timefd_modifier.specs.declared.enums.Padding.{Padding}
use Rattle.timefd_date_moment.specs.Fields.Laws.{HasNoDigit}
use Rattle.timefd_date_moment.specs.Fields.Numbers.{padded, within}
use Rattle.timefd_date_moment.proofs.FieldsLemmas.BackLemmas.{in_range}
use Rattle.timefd_date_moment.proofs.FieldsLemmas.EndedLemmas as ended
use Rattle.timefd_lang_warnings.specs.Settling.Bounds.{number_bound}
use Rattle.timefd_laws.specs.Reading.Bounds.{IsBounded}

-- Either there is no room for more digits than the width, or no digit follows the number.
abbrev pub IsEnded : Padding → ℕ → ℕ → Text → Type 0
IsEnded padding width most rest = ((width ≡ most) × IsBounded (number_bound padding) rest) ⊎ HasNoDigit rest

as_ended : (padding : Padding) (width most : ℕ) (rest : Text) → IsEnded padding width most rest
    → ended.IsEnded padding width most rest
as_ended Padding.Zero width most rest (inl ends) = inl ends.0
as_ended Padding.Zero width most rest (inr ends) = inr ends
as_ended Padding.Space width most rest (inl ends) = inl ends.0
as_ended Padding.Space width most rest (inr ends) = inr ends
as_ended Padding.None width most rest (inl ends) = ends.1
as_ended Padding.None width most rest (inr ends) = ends

pub filled_back : (padding : Padding) (width most n : ℕ) (rest : Text) → 1 ≤ width → width ≤ most
    → most ≤ 23 → n < 10 ^ most → IsEnded padding width most rest
    → padded padding width most (filled padding width n ++ rest) ≡ Some (n, length (filled padding width n))
filled_back padding width most n rest some low few small ends =
    ended.filled_back padding width most n rest some low few small
    (as_ended padding width most rest ends)

pub number_back : (padding : Padding) (width lowest highest n : ℕ) (rest : Text) → 1 ≤ width
    → width ≤ 23 → lowest ≤ n → n ≤ highest → highest < 10 ^ width → IsBounded (number_bound padding) rest
    → within lowest highest (padded padding width width (filled padding width n ++ rest))
    ≡ Some (n, length (filled padding width n))
number_back padding width lowest highest n rest some few low high small ends =
    ap (λ r. within lowest highest r)
    (filled_back padding width width n rest some (omega arith) few (omega (arith, high, small)) (inl (refl, ends)))
    ∙ in_range lowest highest n (length (filled padding width n)) low high
