use Rattle.timefd_description.proofs.GuessingLemmas.FoundLemmas.{comes_some, comes_none}
use Rattle.timefd_lang_node_list.specs.Views.{view_tree}
use Rattle.timefd_description.proofs.guessing.comes_back.comes_back.Goals as goal

pub returns-in-Some : goal.returns-in-Some
returns-in-Some c =
    comes_some (view_tree c.args.view) c.args.text.now c.in-Some.moment c.is_written.result
    c.in-Some.ensures c.is_written.ensures

pub returns-in-None : goal.returns-in-None
returns-in-None c = comes_none (view_tree c.args.view) c.args.text.now c.in-None.ensures
