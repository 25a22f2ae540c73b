use Rattle.std.proofs.Common.{◌∙◌, ◌+◌, ◌<◌, [], length, map, ap, add-one, arith}
use Rattle.timefd_lang_node_list.specs.Nodes.{ending, grown_by, part}
use Rattle.timefd_lang_node_list.proofs.NodeLemmas.{OneBack, inside, length-parts, node_back, step_inside}
use Rattle.timefd_lang_node_list.proofs.TallyLemmas.{tally_in_front}
use Rattle.timefd_lang_node_list.proofs.tally.ending_tally.Goals as goal

pub overflow_sub-node-in-trees : goal.overflow_sub-node-in-trees
overflow_sub-node-in-trees c =
    omega (
      arith,
      length-parts c.args.nodes.now,
      inside (map part c.args.nodes.now) c.trees.at
          c.trees.tally.nodes c.requires.fit (omega (arith, c.trees-test.true, c.requires.there))
          c.trees.invariant.nodes,
    )

pub overflow_add-inner_nodes : goal.overflow_add-inner_nodes
overflow_add-inner_nodes c =
    let here : c.trees.at < length (grown_by [] (map part c.args.nodes.now)) =
    omega (arith, c.trees-test.true, c.requires.there) in
    let o : OneBack (map part c.args.nodes.now) c.trees.at c.trees.tally.nodes
    (part c.index-nodes-nodes.result) =
    node_back _ _ _ _ c.requires.fit here c.trees.invariant.nodes c.index-nodes-nodes.is in
    omega (
      arith,
      step_inside _ _ _ _ c.requires.fit here c.trees.invariant.nodes o,
      c.inner_nodes.ensures,
      length-parts c.args.nodes.now,
    )

pub after-tally-requires : goal.after-tally-requires
after-tally-requires c =
    let here : c.trees.at < length (grown_by [] (map part c.args.nodes.now)) =
    omega (arith, c.trees-test.true, c.requires.there) in
    let o : OneBack (map part c.args.nodes.now) c.trees.at c.trees.tally.nodes
    (part c.index-nodes-nodes.result) =
    node_back _ _ _ _ c.requires.fit here c.trees.invariant.nodes c.index-nodes-nodes.is in
    omega (
      arith,
      step_inside _ _ _ _ c.requires.fit here c.trees.invariant.nodes o,
      c.inner_nodes.ensures,
      length-parts c.args.nodes.now,
    )

pub trees-preserved : goal.trees-preserved
trees-preserved c =
    let here : c.trees.at < length (grown_by [] (map part c.args.nodes.now)) =
    omega (arith, c.trees-test.true, c.requires.there) in
    let o : OneBack (map part c.args.nodes.now) c.trees.at c.trees.tally.nodes
    (part c.index-nodes-nodes.result) =
    node_back _ _ _ _ c.requires.fit here c.trees.invariant.nodes c.index-nodes-nodes.is in
    tally_in_front _ _ o.tree c.trees.tally c.after-tally.result _ _ c.trees.invariant
    (ap (λ n. ending n (grown_by [] (map part c.args.nodes.now))) (add-one c.trees.at) ∙ o.ends)
    (ap (λ n. 1 + n) c.inner_nodes.ensures ∙ o.nodes) (c.bytes.ensures ∙ o.bytes)
    c.after-tally.ensures
