use Rattle.std.proofs.Common.{true}
use Rattle.timefd_lang_node_list.specs.Leaves.{leaves}
use Rattle.timefd_lang_node_list.specs.LeafMeaning.{leaf_tree, leaves_left}
use Rattle.timefd_lang_node_list.specs.Views.{view_tree}
use Rattle.timefd_format.proofs.CompletingLemmas.GivenLemmas.{one_leaf}
use Rattle.timefd_format.proofs.completing.given.is_view_given.Goals as goal

pub leaves-preserved : goal.leaves-preserved
leaves-preserved c =
    one_leaf c.args.fields.now (leaves (view_tree c.args.view)) (leaves_left c.leaves.left)
    (leaves_left c.in-Some.front) (leaf_tree c.in-Some.leaf) true c.leaves.given c.is_leaf_given-given.result
    c.leaves.invariant c.in-Some.ensures c.is_leaf_given-given.ensures
