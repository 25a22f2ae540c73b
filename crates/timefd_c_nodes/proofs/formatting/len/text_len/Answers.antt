use Rattle.timefd_c_nodes.specs.Formatting.Nodes.{node_trees}
use Rattle.timefd_c_nodes.proofs.FormattingLemmas.WriteLemmas.{all_counted, one_counted}
use Rattle.timefd_c_nodes.proofs.formatting.len.text_len.Goals as goal

pub nodes-preserved : goal.nodes-preserved
nodes-preserved c = (
  c.in-Some.ensures.sound,
  one_counted c.args.moment _ _ _ _ c.leaf_len.result c.nodes.len c.len_of_both-len.result c.nodes.invariant.1
      c.in-Some.ensures.leaves c.leaf_len.ensures c.len_of_both-len.ensures,
)

pub returns : goal.returns
returns c =
    all_counted c.args.moment (node_trees c.args.literals.now c.args.nodes.now) _ c.nodes.len c.nodes.invariant.1
    c.in_default.ensures.leaves
