use Rattle.std.proofs.Common.{length}
use Rattle.timefd_description.specs.Guessing.Candidates.{entries}
use Rattle.timefd_description.specs.Guessing.Found.{texts}
use Rattle.timefd_description.proofs.GuessingLemmas.FoundLemmas.{Finds}
use Rattle.timefd_description.proofs.guessing.guessing.push_found.Given as goal

-- what the rest gives comes after
abbrev pub invariant-candidates : goal.invariant-candidates
invariant-candidates l =
    Finds (entries l.fn.candidates) (texts l.texts) (entries l.rest) l.fn.found.items l.found.items

abbrev pub decreases-candidates : goal.decreases-candidates
decreases-candidates l = length l.rest
