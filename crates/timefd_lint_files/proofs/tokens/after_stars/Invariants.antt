use Rattle.std.proofs.Common.{◌≡◌, ◌≤◌, length}
use Rattle.timefd_lint_files.specs.Tokens.{after_stars}
use Rattle.timefd_lint_files.proofs.tokens.after_stars.Given as goal

-- The rest of the text decides.
abbrev pub invariant-stars : goal.invariant-stars
invariant-stars l = record {
  rest : after_stars l.rest ≡ after_stars l.fn.text;
  within : length l.rest ≤ length l.fn.text;
}

abbrev pub decreases-stars : goal.decreases-stars
decreases-stars l = length l.rest
