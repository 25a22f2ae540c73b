use Rattle.std.proofs.Common.{◌≡◌, ◌++◌, length}
use Rattle.timefd_lint_scan.specs.DocLooks.{moved_all}
use Rattle.timefd_lint_scan.proofs.doc_look.moving.push_moved.Given as goal

-- What is left adds all of it.
abbrev pub invariant-others : goal.invariant-others
invariant-others l = l.positions.items ++ moved_all l.start l.rest ≡ l.fn.positions.items ++ moved_all l.start l.others

abbrev pub decreases-others : goal.decreases-others
decreases-others l = length l.rest
