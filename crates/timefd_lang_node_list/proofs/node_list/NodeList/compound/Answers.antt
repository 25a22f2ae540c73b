use Rattle.std.proofs.Common.{[], map, subst}
use Rattle.timefd_lang_node_list.specs.Nodes.{ending, grown_by, part}
use Rattle.timefd_lang_node_list.specs.NodeTrees.{list_trees}
use Rattle.timefd_lang_node_list.specs.Tallies.{IsTally}
use Rattle.timefd_lang_node_list.proofs.NodeListLemmas.{compound_fits}
use Rattle.timefd_lang_node_list.proofs.node_list.NodeList.compound.Goals as goal

pub push-requires-clause-fits : goal.push-requires-clause-fits
push-requires-clause-fits c =
    compound_fits (list_trees c.args.self.now) c.args.count c.ending_tally-members.result
    c.of_all.result c.requires.there
    (subst (λ xs. IsTally (ending c.args.count (grown_by [] (map part xs)))
    c.ending_tally-members.result) c.deref.ensures.value c.ending_tally-members.ensures)
    c.of_all.ensures
