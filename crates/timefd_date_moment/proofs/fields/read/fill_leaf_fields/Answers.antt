use Rattle.std.proofs.Common.{map, subst}
use Rattle.timefd_lang_component.specs.Tree.{compound, trees}
use Rattle.timefd_lang_node_list.specs.LeafMeaning.{leaf_tree}
use Rattle.timefd_date_moment.specs.Fields.Reads as spec
use Rattle.timefd_date_moment.specs.Fields.Reads.{Fills}
use Rattle.timefd_date_moment.proofs.fields.read.fill_leaf_fields.Goals as goal

pub returns : goal.returns
returns c =
    subst (λ text. Fills (spec.fields_of (compound (trees (map leaf_tree c.args.leaves.now))) text) c.read_all-read.new.fields c.answer.result)
    c.as_bytes-bytes.ensures.value (c.answer.ensures _ c.read_all-read.ensures)
