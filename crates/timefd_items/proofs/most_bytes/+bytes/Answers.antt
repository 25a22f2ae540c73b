use Rattle.std.proofs.Common.{◌∙◌, sym, ap, arith}
use Rattle.timefd_lang_node_list.specs.Item.Meaning.{item_tree}
use Rattle.timefd_lang_node_list.specs.Nodes.{kept_bytes}
use Rattle.timefd_lang_component.specs.Reserved.{reserve}
use Rattle.timefd_items.proofs.BytesLemmas.{first_tree}
use Rattle.timefd_items.proofs.BytesLemmas.{bytes_step, bytes_end, first_none, first_some}
use Rattle.timefd_items.proofs.most_bytes.+bytes.Goals as goal

pub item_bytes-returns-in-empty : goal.item_bytes-returns-in-empty
item_bytes-returns-in-empty t c =
    first_none item_tree c.in-First.members.now (omega (arith, c.in-empty.len_below)) ∙
    sym (ap (λ i. kept_bytes (reserve (item_tree i))) c.in-First.is ∙
    ap (λ x. kept_bytes (reserve x)) (first_tree c.in-First.members))

pub item_bytes-returns-in-len1-up : goal.item_bytes-returns-in-len1-up
item_bytes-returns-in-len1-up t c =
    c.item_bytes-in-len1-up.ensures
    ∙ first_some item_tree c.in-First.members.now c.first-item.result
    (omega (arith, c.in-len1-up.len_at_least)) c.first-item.is
    ∙ sym (ap (λ i. kept_bytes (reserve (item_tree i))) c.in-First.is ∙
    ap (λ x. kept_bytes (reserve x)) (first_tree c.in-First.members))

pub items_bytes-items-init : goal.items_bytes-items-init
items_bytes-items-init t c = record { capped = omega arith; all = omega arith }

pub items_bytes-items-preserved : goal.items_bytes-items-preserved
items_bytes-items-preserved t c = record {
  capped = omega (arith, c.capped_sum-bytes.type_inv);
  all = bytes_step item_tree c.args.items.now c.items.at c.index-items-at.result c.items.bytes
      c.item_bytes.result c.capped_sum-bytes.result _ c.items-test.true c.index-items-at.is
      c.item_bytes.ensures c.capped_sum-bytes.ensures c.items.invariant.all;
}

pub items_bytes-returns : goal.items_bytes-returns
items_bytes-returns t c = bytes_end item_tree c.args.items.now c.items.at c.items.bytes _
    c.items-test.false c.items.invariant.capped c.items.invariant.all
