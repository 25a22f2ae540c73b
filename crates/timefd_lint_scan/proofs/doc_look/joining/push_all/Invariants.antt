use Rattle.std.proofs.Common.{◌≡◌, ◌++◌, length, map}
use Rattle.timefd_lint_scan.specs.declared.doc_look.joining.LookPart.TheVariants.{OfExample}
use Rattle.timefd_lint_scan.proofs.doc_look.joining.push_all.Given as goal

-- What is left adds all of it.
abbrev pub invariant-candidates : goal.invariant-candidates
invariant-candidates l = l.parts.items ++ map OfExample l.left ≡ l.fn.parts.items ++ map OfExample l.candidates

abbrev pub decreases-candidates : goal.decreases-candidates
decreases-candidates l = length l.left
