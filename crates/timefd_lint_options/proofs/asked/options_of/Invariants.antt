use Rattle.std.proofs.Common.{◌≡◌, length}
use Rattle.timefd_lint_options.specs.Asked.{options_of, asked_from}
use Rattle.timefd_lint_options.proofs.asked.options_of.Given as goal

-- The remaining words decide.
abbrev pub invariant-words : goal.invariant-words
invariant-words l = asked_from l.state l.rest ≡ options_of l.fn.words

abbrev pub decreases-words : goal.decreases-words
decreases-words l = length l.rest
