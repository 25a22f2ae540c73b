use Rattle.std.proofs.Common.{[], map, refl, arith}
use Rattle.timefd_lang_node_list.specs.Nodes.{part}
use Rattle.timefd_lang_node_list.proofs.NodeLemmas.{count_inside, fit_take, length-parts}
use Rattle.timefd_lang_node_list.proofs.ViewLemmas.{cut}
use Rattle.timefd_lang_node_list.proofs.leaves.in_front.Goals as goal

pub overflow_sub-rest : goal.overflow_sub-rest
overflow_sub-rest c =
    omega (
      arith,
      length-parts c.args.nodes.now,
      count_inside (map part c.args.nodes.now) c.args.count c.requires.fit c.requires.there,
      c.ending_tally-after.ensures.nodes,
    )

pub returns-clause-fit : goal.returns-clause-fit
returns-clause-fit c = fit_take [] c.args.nodes.now _ c.requires.fit

pub returns-clause-trees : goal.returns-clause-trees
returns-clause-trees c =
    (cut c.args.nodes.now _ _ c.args.count c.ending_tally-after.result.nodes c.requires.fit c.requires.there
    c.ending_tally-after.ensures.nodes refl refl).front_trees
