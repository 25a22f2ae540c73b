use Rattle.timefd_lang_node_list.specs.Views.{member_trees}
use Rattle.timefd_lang_node_list.proofs.TurnLemmas.{marks_after}
use Rattle.timefd_lang_node_list.proofs.in_turn.InTurnIterator.next.Goals as goal

pub invariant_of-self : goal.invariant_of-self
invariant_of-self c = record {
  size = c.after_first-mark.new.self.size;
  room = c.after_first-mark.new.self.room;
  marked =
      marks_after (member_trees c.after_first-mark.new.self.members)
      (member_trees c.split_at_mark.result.1) c.after_first-mark.result.count
      c.after_first-mark.new.self.marks c.split_at_mark.ensures.after
      c.after_first-mark.new.self.marked;
}
