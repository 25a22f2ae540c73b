use Rattle.std.proofs.Common.{◌∙◌, arith}
use Rattle.std.proofs.lemmas.List.{length-set}
use Rattle.timefd_lang_node_list.specs.Views.{member_trees}
use Rattle.timefd_lang_node_list.proofs.TurnLemmas.{marks_set}
use Rattle.timefd_lang_node_list.proofs.in_turn.InTurn.push.Goals as goal

pub invariant_of-self : goal.invariant_of-self
invariant_of-self c = record {
  size = length-set c.args.self.now.marks c.args.self.now.len c.args.mark ∙ c.args.self.now.size;
  room = omega (arith, c.if-self-lt-MARKS.true);
  marked = marks_set (member_trees c.args.self.now.members) c.args.self.now.marks
      c.args.self.now.len c.args.mark c.requires c.args.self.now.marked;
}
