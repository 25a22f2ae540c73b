use Rattle.std.proofs.Common.{◌≡◌, ◌++◌, flat_map, length}
use Rattle.timefd_lint_scan.specs.DocLooks.{long}
use Rattle.timefd_lint_scan.proofs.doc_look.giving.push_longs.Given as goal

-- What is left adds all of it.
abbrev pub invariant-descriptions : goal.invariant-descriptions
invariant-descriptions l = l.positions.items ++ flat_map (long l.example.test) l.rest
    ≡ l.fn.positions.items ++ flat_map (long l.example.test) l.example.look.descriptions.items

abbrev pub decreases-descriptions : goal.decreases-descriptions
decreases-descriptions l = length l.rest
