use Rattle.std.proofs.Common.{length}
use Rattle.timefd_lint_diagnosis.specs.Words.{texts}
use Rattle.timefd_lint_options.proofs.OrderLemmas.{IsOrderedFrom}
use Rattle.timefd_lint_options.proofs.order.ordered.Given as goal

-- The words that are left decide the rest.
abbrev pub invariant-words : goal.invariant-words
invariant-words l =
    IsOrderedFrom l.next (texts l.rest) (texts l.options.items) (texts l.names.items) (texts l.fn.words)

abbrev pub decreases-words : goal.decreases-words
decreases-words l = length l.rest
