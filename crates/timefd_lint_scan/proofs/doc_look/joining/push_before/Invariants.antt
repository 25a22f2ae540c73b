use Rattle.std.proofs.Common.{◌≡◌, ◌++◌, length, map}
use Rattle.timefd_lint_scan.specs.declared.doc_look.joining.LookPart.TheVariants.{OfExample}
use Rattle.timefd_lint_scan.specs.DocLooks.{after_front, begins_before, front}
use Rattle.timefd_lint_scan.proofs.doc_look.joining.push_before.Given as goal

-- What is left adds all of it.
abbrev pub invariant-candidates : goal.invariant-candidates
invariant-candidates l = record {
  pushed : l.parts.items ++ map OfExample (front (begins_before l.position) l.left)
      ≡ l.fn.parts.items ++ map OfExample (front (begins_before l.position) l.candidates);
  left : after_front (begins_before l.position) l.left ≡ after_front (begins_before l.position) l.candidates;
}

abbrev pub decreases-candidates : goal.decreases-candidates
decreases-candidates l = length l.left
