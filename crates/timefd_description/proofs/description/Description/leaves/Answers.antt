use Rattle.std.proofs.Common.{◌≡◌, map, subst}
use Rattle.std.specs.Prelude.{IfOk}
use Rattle.timefd_date_format.specs.Written.{written, written_all}
use Rattle.timefd_date_moment.specs.declared.moment.Moment.{Moment}
use Rattle.timefd_parse.specs.Tree.{trees}
use Rattle.timefd_lang_node_list.specs.LeafMeaning.{leaf_tree}
use Rattle.timefd_description.proofs.description.Description.leaves.Goals as goal

pub returns : goal.returns
returns c =
    subst (λ t. IfOk c.written_leaves.result (λ found. (value : Moment)
    → written_all value (trees (map leaf_tree found.items)) ≡ written value t)) c.view.ensures c.written_leaves.ensures
