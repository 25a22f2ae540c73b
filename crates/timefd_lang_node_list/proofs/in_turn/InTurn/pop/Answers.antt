use Rattle.std.proofs.Common.{◌-◌, arith}
use Rattle.timefd_lang_node_list.specs.Views.{member_trees}
use Rattle.timefd_lang_node_list.proofs.TurnLemmas.{mark_at}
use Rattle.timefd_lang_node_list.proofs.in_turn.InTurn.pop.Goals as goal

pub returns-then-mark-len-clause-marked : goal.returns-then-mark-len-clause-marked
returns-then-mark-len-clause-marked c =
    mark_at (member_trees c.args.self.now.members) c.args.self.now.marks (c.args.self.now.len - 1)
    (record { count = 0; nodes = 0 })
    (omega (arith, c.if-self-gt0.true, c.args.self.now.room, c.args.self.now.size))
    c.args.self.now.marked
