use Rattle.std.proofs.Common.{◌≡◌, ◌-◌, ◌<◌, length}
use Rattle.timefd_lang_node_list.specs.Views.{member_trees, IsMark}
use Rattle.timefd_lang_node_list.proofs.in_turn.InTurn.after_first.Given as goal

-- the mark is a position after the first member
abbrev pub invariant-halves : goal.invariant-halves
invariant-halves l = record {
  there : l.mark.count < length (member_trees l.self.members);
  marked : IsMark (member_trees l.self.members) l.mark;
  same : l.self.members ≡ l.initial.self.members;
}

abbrev pub decreases-halves : goal.decreases-halves
decreases-halves l = length (member_trees l.self.members) - l.mark.count
