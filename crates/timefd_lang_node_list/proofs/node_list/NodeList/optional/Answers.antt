use Rattle.std.proofs.Common.{[], map, subst}
use Rattle.timefd_lang_node_list.specs.Nodes.{ending, grown_by, part}
use Rattle.timefd_lang_node_list.specs.NodeTrees.{list_trees}
use Rattle.timefd_lang_node_list.specs.Tallies.{IsTally}
use Rattle.timefd_lang_node_list.proofs.NodeListLemmas.{optional_fits}
use Rattle.timefd_lang_node_list.proofs.node_list.NodeList.optional.Goals as goal

pub push-requires-clause-fits : goal.push-requires-clause-fits
push-requires-clause-fits c =
    optional_fits (list_trees c.args.self.now) c.args.format c.ending_tally-member.result
    c.of_optional.result c.requires.there
    (subst (λ xs. IsTally (ending 1 (grown_by [] (map part xs))) c.ending_tally-member.result)
    c.deref.ensures.value c.ending_tally-member.ensures) c.of_optional.ensures
