use Rattle.std.proofs.Common.{◌∙◌, map, length, sym, ap, arith}
use Rattle.timefd_lang_node_list.specs.Nodes.{part}
use Rattle.timefd_lang_node_list.specs.Views.{member_trees}
use Rattle.timefd_lang_node_list.proofs.NodeLemmas.{count_inside, length-before, length-ending, length-parts}
use Rattle.timefd_lang_node_list.proofs.ViewLemmas.{Cut, cut}
use Rattle.timefd_lang_node_list.proofs.members.Members.split_at_mark.Goals as goal

pub overflow_sub-self : goal.overflow_sub-self
overflow_sub-self c =
    omega (
      arith,
      length-parts c.args.self.nodes.now,
      count_inside (map part c.args.self.nodes.now)
          c.args.mark.count c.args.self.fit c.requires.there,
      (c.requires.marked c.requires.there),
    )

pub new-requires-clause-fit : goal.new-requires-clause-fit
new-requires-clause-fit c =
    (cut c.args.self.nodes.now _ _ c.args.mark.count _ c.args.self.fit c.requires.there
    (c.requires.marked c.requires.there) c.split_at.ensures.front
    c.split_at.ensures.back).front_fit

pub new-requires-clause-counted : goal.new-requires-clause-counted
new-requires-clause-counted c =
    let w : Cut c.args.self.nodes.now c.args.mark.count c.split_at.result.0.now
    c.split_at.result.1.now =
    cut c.args.self.nodes.now _ _ c.args.mark.count _ c.args.self.fit c.requires.there
    (c.requires.marked c.requires.there) c.split_at.ensures.front c.split_at.ensures.back in
    omega (
      arith,
      c.args.self.counted,
      ap length w.front_trees,
      length-before c.args.mark.count (member_trees c.args.self),
    )

pub new-requires-2-clause-fit : goal.new-requires-2-clause-fit
new-requires-2-clause-fit c =
    (cut c.args.self.nodes.now _ _ c.args.mark.count _ c.args.self.fit c.requires.there
    (c.requires.marked c.requires.there) c.split_at.ensures.front
    c.split_at.ensures.back).after_fit

pub new-requires-2-clause-counted : goal.new-requires-2-clause-counted
new-requires-2-clause-counted c =
    let w : Cut c.args.self.nodes.now c.args.mark.count c.split_at.result.0.now
    c.split_at.result.1.now =
    cut c.args.self.nodes.now _ _ c.args.mark.count _ c.args.self.fit c.requires.there
    (c.requires.marked c.requires.there) c.split_at.ensures.front c.split_at.ensures.back in
    sym (ap length w.after_trees ∙ length-ending c.args.mark.count (member_trees c.args.self)
    c.requires.there)

pub returns-clause-front : goal.returns-clause-front
returns-clause-front c =
    c.new.ensures ∙ (cut c.args.self.nodes.now _ _ c.args.mark.count _ c.args.self.fit
    c.requires.there (c.requires.marked c.requires.there) c.split_at.ensures.front
    c.split_at.ensures.back).front_trees

pub returns-clause-after : goal.returns-clause-after
returns-clause-after c =
    c.new-2.ensures ∙ (cut c.args.self.nodes.now _ _ c.args.mark.count _ c.args.self.fit
    c.requires.there (c.requires.marked c.requires.there) c.split_at.ensures.front
    c.split_at.ensures.back).after_trees
