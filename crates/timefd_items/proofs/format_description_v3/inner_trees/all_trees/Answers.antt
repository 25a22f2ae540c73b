use Rattle.std.proofs.Common.{◌∙◌, ◌≤◌, [], length, map, take, sym, ap, add-one, arith}
use Rattle.timefd_lang_node_list.specs.Nodes.{arity, grown_by, part}
use Rattle.timefd_lang_node_list.proofs.NodeLemmas.{fits_at, grown_at}
use Rattle.timefd_items.proofs.InnerLemmas.{length-inner_trees, tree_pushed}
use Rattle.timefd_items.proofs.format_description_v3.inner_trees.all_trees.Goals as goal

pub one_tree-requires : goal.one_tree-requires
one_tree-requires c =
    let there : arity (part c.index-nodes-at.result).role ≤ length c.nodes.trees.items =
    omega (
      arith,
      (fits_at [] c.args.nodes.now c.nodes.at c.index-nodes-at.result c.requires
          c.nodes-test.true c.index-nodes-at.is).0,
      ap length c.nodes.invariant,
      length-inner_trees c.nodes.trees.items,
    ) in
    there

pub nodes-preserved : goal.nodes-preserved
nodes-preserved c =
    tree_pushed c.nodes.trees.items c.one_tree.new.trees.items c.push.new.self.items
    c.in_ok-tree.tree (part c.index-nodes-at.result) _ c.in_ok-push.ensures.items
    c.in_ok-tree.ensures.taken c.in_ok-tree.ensures.tree c.nodes.invariant
    ∙ sym (grown_at [] c.args.nodes.now c.nodes.at c.index-nodes-at.result c.nodes-test.true
    c.index-nodes-at.is)
    ∙ ap (λ k. grown_by [] (map part (take k c.args.nodes.now))) (sym (add-one c.nodes.at))
