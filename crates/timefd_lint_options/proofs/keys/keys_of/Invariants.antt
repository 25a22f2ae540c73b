use Rattle.std.proofs.Common.{◌≡◌, ◌++◌, length}
use Rattle.timefd_lint_scan.specs.Keys.Keys.{named_all}
use Rattle.timefd_lint_options.specs.KeyWords.{keys_from, keys_of}
use Rattle.timefd_lint_options.proofs.keys.keys_of.Given as goal

-- The remaining words add the rest.
abbrev pub invariant-words : goal.invariant-words
invariant-words l = named_all l.keys.items ++ keys_from l.expected l.rest ≡ keys_of l.fn.words

abbrev pub decreases-words : goal.decreases-words
decreases-words l = length l.rest
