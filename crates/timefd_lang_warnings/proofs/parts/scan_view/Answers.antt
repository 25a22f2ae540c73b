use Rattle.timefd_lang_node_list.specs.Leaves.{leaves}
use Rattle.timefd_lang_node_list.specs.LeafMeaning.{leaf_tree, leaves_left}
use Rattle.timefd_lang_node_list.specs.Views.{view_tree}
use Rattle.timefd_lang_warnings.specs.Sought.{start}
use Rattle.timefd_lang_warnings.proofs.ScanLemmas.{one_leaf}
use Rattle.timefd_lang_warnings.proofs.parts.scan_view.Goals as goal

pub leaves-preserved : goal.leaves-preserved
leaves-preserved c =
    one_leaf c.args.sought (leaves (view_tree c.args.view)) (leaves_left c.leaves.left)
    (leaves_left c.in-Some.front) (leaf_tree c.in-Some.leaf) start c.leaves.scan c.scan_leaf-scan.result
    c.leaves.invariant c.in-Some.ensures c.scan_leaf-scan.ensures
