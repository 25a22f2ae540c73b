-- A pattern and a path without what their fronts or ends have in common.
use Rattle.std.specs.Prelude.{ℕ, ◌≡◌, ◌-◌, ◌≤◌, Bool, false, List, length, take, drop, Option, Some, None}
use Rattle.timefd_lint_files.specs.declared.ends.LeftToMatch.{LeftToMatch}
use Rattle.timefd_lint_files.specs.declared.token.PatternToken.{PatternToken}
use Rattle.timefd_lint_files.specs.Matching.{Text, matches}

-- Without `count` tokens and bytes at their ends, the tokens match the path as they do with them.
pub record EndsAlike (tokens : List PatternToken) (path : Text) (count : ℕ) : Type 0 where
  pub in_tokens : count ≤ length tokens
  pub in_path : count ≤ length path
  pub same : matches tokens path ≡ matches (take (length tokens - count) tokens) (take (length path - count) path)

-- without `count` tokens and bytes at their fronts, the tokens match the path as they do with them
pub record BeginsAlike (tokens : List PatternToken) (path : Text) (count : ℕ) : Type 0 where
  pub in_tokens : count ≤ length tokens
  pub in_path : count ≤ length path
  pub same : matches tokens path ≡ matches (drop count tokens) (drop count path)

-- this many can be left out; or none, as the tokens don't match
abbrev pub EndsAlikeIn : List PatternToken → Text → Option ℕ → Type 0
EndsAlikeIn tokens path None = matches tokens path ≡ false
EndsAlikeIn tokens path (Some count) = EndsAlike tokens path count

abbrev pub BeginsAlikeIn : List PatternToken → Text → Option ℕ → Type 0
BeginsAlikeIn tokens path None = matches tokens path ≡ false
BeginsAlikeIn tokens path (Some count) = BeginsAlike tokens path count

-- What remains decides whether all tokens match the whole path. They don't if the result is `None`.
abbrev pub Decides : Bool → Option LeftToMatch → Type 0
Decides whole None = whole ≡ false
Decides whole (Some left) = whole ≡ matches left.tokens.now left.path.now
