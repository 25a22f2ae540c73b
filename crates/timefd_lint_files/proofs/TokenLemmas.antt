-- The tokens so far, and those of the rest.
use Rattle.std.proofs.Common.{◌≡◌, Bool, true, List, [], ◌∷◌, ◌++◌, sym, ap, subst, ◌∙◌, append_assoc, append-nil}
use Rattle.std.specs.Prelude.{Option, Some, None}
use Rattle.timefd_lint_files.specs.declared.token.TokenStep.{TokenStep}
use Rattle.timefd_lint_files.specs.declared.token.PatternToken.{PatternToken}
use Rattle.timefd_lint_files.specs.Matching.{Text}
use Rattle.timefd_lint_files.specs.Tokens.{AreTokens, BeginsAny, ends_name}

-- Whatever tokens the rest is, the tokens so far and those together are the whole text.
pub record GoesOn (text : Text) (before now : List PatternToken) (begins_name : Bool) (rest : Text) : Type 0 where
  pub read : List PatternToken
  pub pushed : now ≡ before ++ read
  pub on : (tokens : List PatternToken) → AreTokens begins_name rest tokens → AreTokens true text (read ++ tokens)

pub at_first : (text : Text) (before : List PatternToken) → GoesOn text before before true text
at_first text before = record { read = []; pushed = sym (append-nil before); on = λ tokens are. are }

pub one_more : (text rest : Text) (before now more : List PatternToken) (begins_name : Bool) (found : Option TokenStep) (step : TokenStep)
    → GoesOn text before now begins_name rest → BeginsAny begins_name rest found
    → found ≡ Some step → more ≡ now ++ step.token ∷ []
    → GoesOn text before more (ends_name step.token) step.rest.now
one_more text rest before now more begins_name found step so_far begin is pushed = record {
  read = so_far.read ++ step.token ∷ [];
  pushed = pushed ∙ ap (λ (ts : List PatternToken). ts ++ step.token ∷ []) so_far.pushed ∙
      append_assoc before so_far.read (step.token ∷ []);
  on = λ tokens are. rw append_assoc (so_far.on (step.token ∷ tokens)
      (step.rest.now, subst (BeginsAny begins_name rest) is begin, are));
}

pub at_last : (text rest : Text) (before now : List PatternToken) (begins_name : Bool) (found : Option TokenStep)
    → GoesOn text before now begins_name rest → BeginsAny begins_name rest found → found ≡ None
    → (more : List PatternToken) × (now ≡ before ++ more) × AreTokens true text more
at_last text rest before now begins_name found so_far begin is = (
  so_far.read,
  so_far.pushed,
  rw append-nil at (so_far.on [] (subst (BeginsAny begins_name rest) is begin)),
)
