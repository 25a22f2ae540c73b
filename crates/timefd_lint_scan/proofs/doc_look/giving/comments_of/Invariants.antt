use Rattle.std.proofs.Common.{◌≡◌, ◌++◌, flat_map, length}
use Rattle.timefd_lint_scan.specs.DocLooks.{comments_in}
use Rattle.timefd_lint_scan.proofs.doc_look.giving.comments_of.Given as goal

-- What is left adds all of it.
abbrev pub invariant-examples : goal.invariant-examples
invariant-examples l = l.positions.items ++ flat_map comments_in l.rest ≡ flat_map comments_in l.examples

abbrev pub decreases-examples : goal.decreases-examples
decreases-examples l = length l.rest
