use Rattle.std.proofs.Common.{sym, ap}
use Rattle.timefd_lang_node_list.specs.Views.{member_trees, view_tree}
use Rattle.timefd_c_nodes.specs.Encoding.{own_text}
use Rattle.timefd_c_nodes.proofs.TreeLemmas.{compound_is, first_is}
use Rattle.timefd_c_nodes.proofs.WithinLemmas.{put_node}
use Rattle.timefd_c_nodes.proofs.part.put_part.Goals as goal

pub returns-in-Compound-clause-some : goal.returns-in-Compound-clause-some
returns-in-Compound-clause-some c =
    put_node (view_tree c.args.part) c.args.at c.compound-node.result _ c.put.result _ _ _
    (ap own_text (sym c.in-Compound.ensures))
    (compound_is (view_tree c.args.part) (member_trees c.in-Compound.members) c.args.at.nodes
    c.args.at.literals c.first_inner.result c.max_bytes_needed-bytes.result c.len.result
    c.compound-node.result c.in-Compound.ensures c.first_inner.ensures
    c.max_bytes_needed-bytes.ensures c.len.ensures c.compound-node.ensures)
    c.put.ensures.some

pub returns-in-First-clause-some : goal.returns-in-First-clause-some
returns-in-First-clause-some c =
    put_node (view_tree c.args.part) c.args.at c.first-node.result _ c.put-in-First.result _ _ _
    (ap own_text (sym c.in-First.ensures))
    (first_is (view_tree c.args.part) (member_trees c.in-First.members) c.args.at.nodes
    c.args.at.literals c.first_inner-in-First.result c.max_bytes_needed-bytes-in-First.result
    c.len-in-First.result c.first-node.result c.in-First.ensures c.first_inner-in-First.ensures
    c.max_bytes_needed-bytes-in-First.ensures c.len-in-First.ensures c.first-node.ensures)
    c.put-in-First.ensures.some
