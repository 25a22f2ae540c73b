-- Chains of cures that end at the limit.
use Rattle.std.proofs.Common.{◌≡◌, ◌≤◌, ℕ, le_refl, List, Result, Ok, Err, inr, subst, sym}
use Rattle.std.specs.Prelude.{IfOk}
use Rattle.std.specs.Result.{IfErr}
use Rattle.timefd_parse.specs.Tree.{Text, Tree}
use Rattle.timefd_parse.specs.Faults.{Fault}
use Rattle.timefd_language.specs.Grammar.{nesting_limit}
use Rattle.timefd_language.proofs.LawLemmas.{one_answer_law}
use Rattle.timefd_language.proofs.StrftimeReader.{strftime_one_answer_law}
use Rattle.timefd_parse.specs.ParseError.{ParseError}
use Rattle.timefd_parse.specs.ParseError.TheVariants.{Invalid, Memory}
use Rattle.timefd_language.specs.declared.description_version.Language.{Language}
use Rattle.timefd_language.specs.declared.description_version.Language.TheVariants.{Version, Strftime}
use Rattle.timefd_parse.specs.Language.{FaultIn, IsAssignedIn, SpellsIn}
use Rattle.timefd_lint_rewrite.specs.declared.cure.Fixes.{Fixes}
use Rattle.timefd_lint_rewrite.specs.declared.fixing.TheConstants.{FIX_LIMIT}
use Rattle.timefd_lint_rewrite.specs.Chains.{IsFixed, IsLeftOf, LeadsTo}

-- A text that is accepted at the limit, and one that has a fault there.
pub accepted_fixed : (X E : Type 0) (bytes : X → Text) (language : Language) (fixes : Fixes)
    (steps : ℕ) (text last : Text) (r : Result X E)
    → steps ≤ FIX_LIMIT → LeadsTo language fixes steps text last
    → IfOk r (λ answer. bytes answer ≡ last)
    → IfOk r (λ answer. (list : List Tree) × SpellsIn language nesting_limit (bytes answer) list)
    → IfOk r (λ answer. IsFixed language fixes text (bytes answer))
accepted_fixed X E bytes language fixes steps text last (Ok answer) within chain same accepted =
    record {
      steps = steps;
      within = within;
      chain = subst (λ t. LeadsTo language fixes steps text t) (sym same) chain;
      accepted = accepted;
    }
accepted_fixed X E bytes language fixes steps text last (Err e) within chain same accepted = tt

-- A text that is accepted has no fault.
pub no_fault : (language : Language) (text : Text) (list : List Tree) (f : Fault)
    → SpellsIn language nesting_limit text list → FaultIn language nesting_limit text f → ⊥
no_fault (Version v) text list f spelled assigned =
    (one_answer_law v nesting_limit text).1.not_both list f spelled assigned
no_fault Strftime text list f spelled assigned =
    (strftime_one_answer_law text).1.not_both list f spelled assigned

pub faultless : (X E : Type 0) (bytes : X → Text) (language : Language) (r : Result X E)
    → IfOk r (λ answer. (list : List Tree) × SpellsIn language nesting_limit (bytes answer) list)
    → IfOk r (λ answer. (f : Fault) → FaultIn language nesting_limit (bytes answer) f → ⊥)
faultless X E bytes language (Ok answer) accepted = λ f assigned.
    no_fault language (bytes answer) accepted.0 f accepted.1 assigned
faultless X E bytes language (Err e) accepted = tt

left_at : (language : Language) (fixes : Fixes) (steps : ℕ) (text last : Text) (e : ParseError)
    → steps ≡ FIX_LIMIT → LeadsTo language fixes steps text last
    → IsAssignedIn language nesting_limit last e → IsLeftOf language fixes text e
left_at language fixes steps text last (Invalid f) most chain assigned = record {
  steps = steps;
  last = last;
  within = rw (most) (le_refl FIX_LIMIT);
  chain = chain;
  ends = inr (most, assigned);
}
left_at language fixes steps text last (Memory e) most chain assigned = tt

pub limit_left : (X : Type 0) (language : Language) (fixes : Fixes) (steps : ℕ)
    (text last : Text) (r : Result X ParseError)
    → steps ≡ FIX_LIMIT → LeadsTo language fixes steps text last
    → IfErr r (IsAssignedIn language nesting_limit last)
    → IfErr r (IsLeftOf language fixes text)
limit_left X language fixes steps text last (Ok answer) most chain assigned = tt
limit_left X language fixes steps text last (Err e) most chain assigned =
    left_at language fixes steps text last e most chain assigned
