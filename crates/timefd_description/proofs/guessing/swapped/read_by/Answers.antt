use Rattle.timefd_description.specs.Guessing.Found.{texts}
use Rattle.timefd_description.proofs.GuessingLemmas.FoundLemmas.{read_by_none_of, read_by_of}
use Rattle.timefd_description.specs.Descriptions.{tree}
use Rattle.timefd_lang_node_list.specs.Views.{view_tree}
use Rattle.timefd_description.proofs.guessing.swapped.read_by.Goals as goal

pub returns-in-Ok : goal.returns-in-Ok
returns-in-Ok c =
    read_by_of c.args.description.now (texts c.args.texts.now) (tree c.in-Ok.description) (view_tree c.view.result)
    c.count.result c.in-Ok.ensures.found c.view.ensures c.count.ensures

pub returns-in-Err-Invalid : goal.returns-in-Err-Invalid
returns-in-Err-Invalid c =
    read_by_none_of c.args.description.now (texts c.args.texts.now) _ _
    c.in-Err-Invalid.field-0-is c.in-Err-Invalid.ensures.fault
