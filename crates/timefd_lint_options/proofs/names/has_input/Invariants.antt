use Rattle.std.proofs.Common.{◌≡◌, length}
use Rattle.timefd_lint_options.specs.Names.{has_input}
use Rattle.timefd_lint_options.proofs.names.has_input.Given as goal

abbrev pub invariant-names : goal.invariant-names
invariant-names l = has_input l.rest ≡ has_input l.fn.words

abbrev pub decreases-names : goal.decreases-names
decreases-names l = length l.rest
