use Rattle.timefd_lang_node_list.specs.Views.{view_tree}
use Rattle.timefd_description.proofs.WritingLemmas.{few}
use Rattle.timefd_description.proofs.writing.write_few.Goals as goal

pub returns-clause-front : goal.returns-clause-front
returns-clause-front c =
    few c.args.moment.now (view_tree c.args.view) c.list_leaves.new.room c.in_ok-from.from
    c.args.buffer.now c.write_front.new.buffer c.write_front.result c.in_ok-from.ensures.listed
    c.write_front.ensures
