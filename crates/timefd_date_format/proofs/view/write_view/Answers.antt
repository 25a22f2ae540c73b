use Rattle.timefd_lang_node_list.specs.Views.{view_tree}
use Rattle.timefd_date_format.proofs.LeafLemmas.{one_leaf, all_leaves, all_utf8}
use Rattle.timefd_date_format.proofs.view.write_view.Goals as goal

pub leaves-preserved : goal.leaves-preserved
leaves-preserved c =
    one_leaf c.args.moment _ _ _ _ c.args.buffer.now c.leaves.buffer c.write_leaf-at.new.buffer c.leaves.at
    c.write_leaf-at.result c.leaves.invariant c.in-Some.ensures c.write_leaf-at.ensures.writes
    c.write_leaf-at.ensures.utf8

pub returns : goal.returns
returns c = record {
  writes = all_leaves c.args.moment (view_tree c.args.view) _ c.args.buffer.now c.leaves.buffer c.leaves.at
      c.leaves.invariant c.in_default.ensures;
  utf8 = all_utf8 c.args.moment (view_tree c.args.view) _ c.args.buffer.now c.leaves.buffer c.leaves.at
      c.leaves.invariant c.in_default.ensures;
}
