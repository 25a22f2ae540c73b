use Rattle.std.proofs.Common.{◌∙◌, IfSome, length, map, true, refl, sym, ap, subst, arith}
use Rattle.std.proofs.lemmas.List.{length-map}
use Rattle.timefd_lang_node_list.specs.Item.Meaning.{item_tree}
use Rattle.timefd_lang_component.specs.Reserved.{reserve}
use Rattle.timefd_lang_component.specs.Tree.{compound, optional, first, trees}
use Rattle.timefd_items.proofs.BytesLemmas.{bytes_step}
use Rattle.timefd_lang_node_list.specs.Views.{walked, walked_all}
use Rattle.timefd_c_nodes.specs.Writing.{IsWritten}
use Rattle.timefd_c_nodes.proofs.ItemLemmas.{component_tree}
use Rattle.timefd_c_nodes.proofs.TreeLemmas.{walked_at}
use Rattle.timefd_c_nodes.proofs.WithinLemmas.{part_past, part_step, past_inside, written_component, written_compound, written_first, written_optional}
use Rattle.timefd_c_nodes.proofs.items.+write.Goals as goal

pub write_all-returns-in_err-written-clause-none : goal.write_all-returns-in_err-written-clause-none
write_all-returns-in_err-written-clause-none t c = λ none. part_past _ _ _ _ _ _ _ _ _ _
    (walked_at item_tree c.args.items.now c.items.at c.index-items-at.result c.items-test.true
    c.index-items-at.is) c.items.invariant.part (c.in_err-written.ensures.none refl)

pub write_all-items-preserved : goal.write_all-items-preserved
write_all-items-preserved t c = record {
  part = part_step _ _ _ _ _ _ _ _ _ _ _ _ _
      (walked_at item_tree c.args.items.now c.items.at c.index-items-at.result c.items-test.true
      c.index-items-at.is) c.items.invariant.part c.in_ok-written.ensures.some.within;
  capped = omega (arith, c.capped_sum-bytes.type_inv);
  all = bytes_step item_tree c.args.items.now c.items.at c.index-items-at.result c.items.bytes
      c.in_ok-written.written.bytes c.capped_sum-bytes.result _ c.items-test.true
      c.index-items-at.is
      c.in_ok-written.ensures.some.bytes c.capped_sum-bytes.ensures c.items.invariant.all;
}

pub write_item-returns-in-Component-clause-some : goal.write_item-returns-in-Component-clause-some
write_item-returns-in-Component-clause-some t c =
    subst (λ x. IfSome c.put_component.result (IsWritten (walked x) (reserve x) c.args.from
    c.args.nodes.now c.put_component.new.nodes c.args.literals.now c.args.literals.now))
    (sym (ap item_tree c.in-Component.is ∙ component_tree c.in-Component.component))
    (written_component c.in-Component.component c.args.from _ c.put_component.result
    c.args.nodes.now c.put_component.new.nodes c.args.literals.now refl
    c.put_component.ensures.some)

pub write_compound-returns-in_err-inner-clause-none : goal.write_compound-returns-in_err-inner-clause-none
write_compound-returns-in_err-inner-clause-none t c = λ none.
    past_inside (walked_all (trees (map item_tree c.args.members.now)))
    (compound (trees (map item_tree c.args.members.now))) c.args.from
    (c.in_err-inner.ensures.none refl)

pub write_compound-returns-clause-some : goal.write_compound-returns-clause-some
write_compound-returns-clause-some t c =
    written_compound (map item_tree c.args.members.now) c.args.from c.in_ok-inner.inner c.put.result
    c.compound-node.result (length c.args.members.now) _ _ _ _ _ c.in_ok-inner.ensures.some
    (sym (length-map c.args.members.now item_tree)) c.compound-node.ensures c.put.ensures.some

pub write_optional-returns-in_err-inner-clause-none : goal.write_optional-returns-in_err-inner-clause-none
write_optional-returns-in_err-inner-clause-none t c = λ none.
    past_inside (walked (item_tree c.args.member.now)) (optional true (item_tree c.args.member.now))
    c.args.from (c.in_err-inner.ensures.none refl)

pub write_optional-returns-clause-some : goal.write_optional-returns-clause-some
write_optional-returns-clause-some t c =
    written_optional (item_tree c.args.member.now) c.args.from c.in_ok-inner.inner c.put.result
    c.optional-node.result _ _ _ _ _ c.in_ok-inner.ensures.some c.optional-node.ensures
    c.put.ensures.some

pub write_first-returns-in_err-inner-clause-none : goal.write_first-returns-in_err-inner-clause-none
write_first-returns-in_err-inner-clause-none t c = λ none.
    past_inside (walked_all (trees (map item_tree c.args.members.now)))
    (first (trees (map item_tree c.args.members.now))) c.args.from
    (c.in_err-inner.ensures.none refl)

pub write_first-returns-clause-some : goal.write_first-returns-clause-some
write_first-returns-clause-some t c =
    written_first (map item_tree c.args.members.now) c.args.from c.in_ok-inner.inner c.put.result
    c.first-node.result (length c.args.members.now) c.first_bytes-bytes.result _ _ _ _ _
    c.in_ok-inner.ensures.some (sym (length-map c.args.members.now item_tree))
    c.first_bytes-bytes.ensures c.first-node.ensures c.put.ensures.some
