use Rattle.std.proofs.Common.{[], length}
use Rattle.timefd_description.specs.Guessing.Candidates.{all_entries, rows_in}
use Rattle.timefd_description.specs.Guessing.Found.{texts}
use Rattle.timefd_description.proofs.GuessingLemmas.FoundLemmas.{Finds}
use Rattle.timefd_description.proofs.guessing.guessing.found_of_all.Given as goal

-- what the remaining groups give comes after
abbrev pub invariant-groups : goal.invariant-groups
invariant-groups l = Finds all_entries (texts l.texts) (rows_in l.rest) [] l.found.items

abbrev pub decreases-groups : goal.decreases-groups
decreases-groups l = length l.rest
