-- The first part of a format of another language or library that is refused where the format stands.
use Rattle.std.proofs.Common.{ℕ, ◌≡◌, ◌<◌, ◌≤◌, ◌-◌, cond, Bool, true, false, List, [], ◌∷◌, ◌++◌, drop, length, length-drop, refl, sym, ap, subst, arith}
use Rattle.std.specs.List.{slice_index}
use Rattle.timefd_parse.specs.Tree.{Text}
use Rattle.timefd_lang_dialect.specs.declared.dialect.Dialect.{Dialect}
use Rattle.timefd_lang_dialect.specs.declared.error.RefusedPart.{RefusedPart}
use Rattle.timefd_lang_dialect.specs.declared.reading.Converted.{Converted}
use Rattle.timefd_lang_dialect.specs.Answers.{IsConverted}
use Rattle.timefd_lang_dialect.specs.Reading.{RefusedAt}
use Rattle.timefd_lint_drawing.specs.Positions.{after, goes_on}
use Rattle.timefd_lint_sources.specs.declared.judgement.RefusedParts.{RefusedParts}
use Rattle.timefd_lint_sources.specs.Refusing.{is_refused}
use Rattle.timefd_lint_sources.specs.Search.{IsSearched, IsSpared, MeansAny, Passes, after_sign, moved}
use Rattle.std.specs.Prelude.{None, Some}

pub has_meaning : (dialect : Dialect) (text : Text) (answer : Converted) → IsConverted dialect text answer
    → MeansAny dialect text
has_meaning dialect text answer is = (is.0, is.1)

-- What is passed over so far.
pub record HasPassed (parts : RefusedParts) (dialect : Dialect) (text rest : Text) : Type 0 where
  pub passed : List ℕ
  pub passes : Passes parts dialect text passed rest

pub none_passed : (parts : RefusedParts) (dialect : Dialect) (text : Text) → HasPassed parts dialect text text
none_passed parts dialect text = record { passed = []; passes = refl }

one_more : (parts : RefusedParts) (dialect : Dialect) (text : Text) (passed : List ℕ) (rest : Text) (index : ℕ)
    → Passes parts dialect text passed rest → IsSpared parts dialect rest index
    → Passes parts dialect text (passed ++ index ∷ []) (after_sign index rest)
one_more parts dialect text [] rest index so_far spared =
    (subst (λ t. IsSpared parts dialect t index) (sym so_far) spared, ap (after_sign index) so_far)
one_more parts dialect text (first ∷ passed) rest index so_far spared =
    (so_far.0, one_more parts dialect (after_sign first text) passed rest index so_far.1 spared)

pub has_passed_more : (parts : RefusedParts) (dialect : Dialect) (text rest next : Text) (refusal : RefusedPart)
    → HasPassed parts dialect text rest → RefusedAt dialect rest refusal.reason refusal.index
    → is_refused parts dialect refusal.reason ≡ false → next ≡ after_sign refusal.index rest
    → HasPassed parts dialect text next
has_passed_more parts dialect text rest next refusal so_far refused spared is = record {
  passed = so_far.passed ++ refusal.index ∷ [];
  passes = subst (λ t. Passes parts dialect text (so_far.passed ++ refusal.index ∷ []) t) (sym is)
      (one_more parts dialect text so_far.passed rest refusal.index so_far.passes
      (refusal.reason, refused, spared));
}

pub all_is_right : (parts : RefusedParts) (dialect : Dialect) (text rest : Text)
    → HasPassed parts dialect text rest → MeansAny dialect rest → IsSearched parts dialect text None
all_is_right parts dialect text rest so_far means = (so_far.passed, rest, so_far.passes, means)

pub nothing_left : (parts : RefusedParts) (dialect : Dialect) (text rest : Text) → HasPassed parts dialect text rest
    → rest ≡ [] → IsSearched parts dialect text None
nothing_left parts dialect text rest so_far none =
    all_is_right parts dialect text rest so_far ([], none)

pub is_found : (parts : RefusedParts) (dialect : Dialect) (text rest : Text) (refusal found : RefusedPart)
    → HasPassed parts dialect text rest → RefusedAt dialect rest refusal.reason refusal.index
    → is_refused parts dialect refusal.reason ≡ true → found ≡ moved (length text) (length rest) refusal
    → IsSearched parts dialect text (Some found)
is_found parts dialect text rest refusal found so_far refused is same =
    (so_far.passed, rest, refusal, so_far.passes, refused, is, same)

-- What is left is shorter.

no_longer : (at : ℕ) (text : Text) → length (after at text) ≤ length text - at
no_longer at text = by (goes_on (slice_index text at))
  where
    by : (b : Bool) → length (cond b [] (drop at text)) ≤ length text - at
    by true = omega arith
    by false = omega (arith, length-drop at text)

pub is_shorter : (index : ℕ) (text middle rest : Text) → 0 < length text → middle ≡ after index text
    → rest ≡ after 1 middle → length rest < length text
is_shorter index text middle rest some first second =
    omega (arith, ap length first, ap length second, no_longer index text, no_longer 1 middle, some)
