use Rattle.std.proofs.Common.{◌≡◌, ◌++◌, flat_map, length}
use Rattle.timefd_lint_scan.specs.DocLooks.{short}
use Rattle.timefd_lint_scan.proofs.doc_look.giving.push_shorts.Given as goal

-- What is left adds all of it.
abbrev pub invariant-descriptions : goal.invariant-descriptions
invariant-descriptions l = l.candidates.items ++ flat_map (short l.example.test) l.rest
    ≡ l.fn.candidates.items ++ flat_map (short l.example.test) l.example.look.descriptions.items

abbrev pub decreases-descriptions : goal.decreases-descriptions
decreases-descriptions l = length l.rest
