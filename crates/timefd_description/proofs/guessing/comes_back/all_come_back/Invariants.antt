use Rattle.std.proofs.Common.{length}
use Rattle.timefd_description.specs.Guessing.Found.{texts}
use Rattle.timefd_description.proofs.GuessingLemmas.FoundLemmas.{Decides}
use Rattle.timefd_lang_node_list.specs.Views.{view_tree}
use Rattle.timefd_description.proofs.guessing.comes_back.all_come_back.Given as goal

-- the result depends only on what is left
abbrev pub invariant-texts : goal.invariant-texts
invariant-texts l = Decides (view_tree l.view) (texts l.fn.texts) (texts l.rest)

abbrev pub decreases-texts : goal.decreases-texts
decreases-texts l = length l.rest
