use Rattle.std.proofs.Common.{◌+◌, map, arith}
use Rattle.timefd_lang_node_list.specs.Nodes.{part}
use Rattle.timefd_lang_node_list.specs.Views.{member_trees}
use Rattle.timefd_lang_node_list.proofs.NodeLemmas.{count_inside, length-parts}
use Rattle.timefd_lang_node_list.proofs.TurnLemmas.{mark_more}
use Rattle.timefd_lang_node_list.proofs.members.Members.mark_before.Goals as goal

pub overflow_add-result-2 : goal.overflow_add-result-2
overflow_add-result-2 c =
    omega (
      arith,
      length-parts c.args.self.nodes.now,
      count_inside (map part c.args.self.nodes.now)
          (c.args.mark.count + c.args.count) c.args.self.fit c.requires.there,
      mark_more (member_trees c.args.self) (member_trees c.split_at_mark.result.0) c.args.mark
          c.args.count c.ending_tally.result.nodes c.requires.marked c.requires.there
          c.split_at_mark.ensures.front c.ending_tally.ensures.nodes,
    )

pub returns-clause-marked : goal.returns-clause-marked
returns-clause-marked c =
    λ g. mark_more (member_trees c.args.self) (member_trees c.split_at_mark.result.0) c.args.mark
    c.args.count c.ending_tally.result.nodes c.requires.marked c.requires.there
    c.split_at_mark.ensures.front c.ending_tally.ensures.nodes
