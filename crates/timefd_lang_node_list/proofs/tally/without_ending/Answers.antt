use Rattle.std.proofs.Common.{[], map, arith}
use Rattle.timefd_lang_node_list.specs.Nodes.{part}
use Rattle.timefd_lang_node_list.proofs.NodeLemmas.{count_inside, fit_take, length-parts}
use Rattle.timefd_lang_node_list.proofs.PrintLemmas.{left_without}
use Rattle.timefd_lang_node_list.proofs.tally.without_ending.Goals as goal

pub overflow_sub-rest : goal.overflow_sub-rest
overflow_sub-rest c =
    omega (
      arith,
      length-parts c.args.nodes.now,
      count_inside (map part c.args.nodes.now) c.args.count c.requires.fit c.requires.there,
      c.ending_tally-after.ensures.nodes,
    )

pub returns-clause-fit : goal.returns-clause-fit
returns-clause-fit c = fit_take [] c.args.nodes.now _ c.requires.fit

pub returns-clause-left : goal.returns-clause-left
returns-clause-left c = left_without c.args.nodes.now c.args.count _ c.requires.fit c.requires.there
    c.ending_tally-after.ensures.nodes
