use Rattle.std.proofs.Common.{length, ◌+◌, ◌≤◌}
use Rattle.timefd_description.specs.Guessing.Found.{texts}
use Rattle.timefd_description.proofs.GuessingLemmas.FoundLemmas.{Counting}
use Rattle.timefd_lang_node_list.specs.Views.{view_tree}
use Rattle.timefd_description.proofs.guessing.swapped.count.Given as goal

-- the count of what is left is added
abbrev pub invariant-texts : goal.invariant-texts
invariant-texts l =
    Counting (view_tree l.view) (texts l.fn.texts) (texts l.rest) l.count
    × (l.count + length l.rest ≤ length l.fn.texts)

abbrev pub decreases-texts : goal.decreases-texts
decreases-texts l = length l.rest
