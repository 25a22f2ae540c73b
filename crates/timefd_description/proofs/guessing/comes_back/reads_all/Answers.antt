use Rattle.timefd_description.specs.Guessing.Found.{texts}
use Rattle.timefd_description.proofs.GuessingLemmas.FoundLemmas.{reads_none_of, reads_of}
use Rattle.timefd_description.specs.Descriptions.{tree}
use Rattle.timefd_lang_node_list.specs.Views.{view_tree}
use Rattle.timefd_description.proofs.guessing.comes_back.reads_all.Goals as goal

pub returns-in-Ok : goal.returns-in-Ok
returns-in-Ok c =
    reads_of c.args.description.now (texts c.args.texts.now) (tree c.in-Ok.description) (view_tree c.view.result)
    c.all_come_back.result c.in-Ok.ensures.found c.view.ensures c.all_come_back.ensures

pub returns-in-Err-Invalid : goal.returns-in-Err-Invalid
returns-in-Err-Invalid c =
    reads_none_of c.args.description.now (texts c.args.texts.now) _ _
    c.in-Err-Invalid.field-0-is c.in-Err-Invalid.ensures.fault
