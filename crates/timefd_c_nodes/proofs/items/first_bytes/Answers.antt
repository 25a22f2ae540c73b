use Rattle.std.proofs.Common.{◌∙◌, arith}
use Rattle.timefd_lang_node_list.specs.Item.Meaning.{item_tree}
use Rattle.timefd_items.proofs.BytesLemmas.{first_none, first_some}
use Rattle.timefd_c_nodes.proofs.items.first_bytes.Goals as goal

pub returns-in-empty : goal.returns-in-empty
returns-in-empty c = first_none item_tree c.args.members.now (omega (arith, c.in-empty.len_below))

pub returns-in-len1-up : goal.returns-in-len1-up
returns-in-len1-up c =
    c.item_bytes.ensures ∙
    first_some item_tree c.args.members.now c.first-item.result
    (omega (arith, c.in-len1-up.len_at_least)) c.first-item.is
