use Rattle.std.proofs.Common.{◌∙◌, ◌+◌, ◌∷◌, sym, ap, arith}
use Rattle.timefd_lang_node_list.specs.Views.{walk_from}
use Rattle.timefd_lang_node_list.proofs.WalkLemmas.{part_inside, part_at}
use Rattle.timefd_lang_node_list.proofs.walk.part_at.Goals as goal

pub overflow_sub-at : goal.overflow_sub-at
overflow_sub-at c =
    omega (
      arith,
      c.inner_nodes-inner.ensures,
      part_inside c.args.nodes.now c.args.at c.index-nodes-at.result c.requires.fit
          c.requires.there c.index-nodes-at.is,
    )

pub new-requires-clause-fit : goal.new-requires-clause-fit
new-requires-clause-fit c =
    (part_at c.args.nodes.now c.split_at.result.0.now c.split_at-2.result.1.now c.args.at
    c.inner_nodes-inner.result c.index-nodes-at.result c.requires.fit c.requires.there
    c.index-nodes-at.is c.inner_nodes-inner.ensures c.split_at.ensures.front
    c.split_at-2.ensures.back).fit

pub new-requires-clause-one : goal.new-requires-clause-one
new-requires-clause-one c =
    (part_at c.args.nodes.now c.split_at.result.0.now c.split_at-2.result.1.now c.args.at
    c.inner_nodes-inner.result c.index-nodes-at.result c.requires.fit c.requires.there
    c.index-nodes-at.is c.inner_nodes-inner.ensures c.split_at.ensures.front
    c.split_at-2.ensures.back).one

pub returns : goal.returns
returns c =
    (part_at c.args.nodes.now c.split_at.result.0.now c.split_at-2.result.1.now c.args.at
    c.inner_nodes-inner.result c.index-nodes-at.result c.requires.fit c.requires.there
    c.index-nodes-at.is c.inner_nodes-inner.ensures c.split_at.ensures.front
    c.split_at-2.ensures.back).step
    ∙ ap (λ t. t ∷ walk_from c.args.nodes.now (c.args.at + 1)) (sym c.new.ensures)
