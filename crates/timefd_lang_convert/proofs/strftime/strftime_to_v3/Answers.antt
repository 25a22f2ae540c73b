use Rattle.std.proofs.Common.{rules, ◌≡◌, ◌∙◌, [], sym, ap, subst}
use Rattle.timefd_lang_component.specs.Tree.{trees}
use Rattle.timefd_lang_convert.specs.Laws.{SpellsFlat}
use Rattle.timefd_lang_convert.specs.Leaves.{AreShallowItems}
use Rattle.timefd_lang_convert.proofs.ItemLemmas.{spelled_items, none_spelled, no_items}
use Rattle.timefd_lang_convert.proofs.LengthLemmas.{printed-length}
use Rattle.timefd_lang_node_list.specs.Item.Meaning.{item_trees}
use Rattle.timefd_language.specs.Grammar.{nesting_limit}
use Rattle.timefd_lang_convert.specs.Printing.Printed.{printed_all}
use Rattle.timefd_lang_convert.proofs.strftime.strftime_to_v3.Goals as goal

pub printed-requires : goal.printed-requires
printed-requires c =
    subst AreShallowItems (sym c.deref.ensures.value)
    (spelled_items c.args.s.now c.in-Ok.items.items c.in-Ok.ensures.found c.in-Ok.ensures.strings)

pub returns-in-Ok-printed-clause-same_items : goal.returns-in-Ok-printed-clause-same_items
returns-in-Ok-printed-clause-same_items c = λ list s.
    let is = c.in-Ok-printed.ensures.printed
    ∙ ap (λ items. printed_all (trees (item_trees items))) c.deref.ensures.value
    ∙ ap (λ ts. printed_all (trees ts)) (c.in-Ok.ensures.spelled list s) in
    subst (λ answer. SpellsFlat nesting_limit answer list) (sym is)
    (c.flattening.ensures nesting_limit c.args.s.now list s)

pub returns-in-Ok-printed-clause-spelled : goal.returns-in-Ok-printed-clause-spelled
returns-in-Ok-printed-clause-spelled c = λ list s.
    c.in-Ok-printed.ensures.printed
    ∙ ap (λ items. printed_all (trees (item_trees items))) c.deref.ensures.value
    ∙ ap (λ ts. printed_all (trees ts)) (c.in-Ok.ensures.spelled list s)

pub returns-in-Ok-printed-clause-within : goal.returns-in-Ok-printed-clause-within
returns-in-Ok-printed-clause-within c =
    printed-length c.args.s.now _ (item_trees c.in-Ok.items.items) c.in-Ok.ensures.found
    (c.in-Ok-printed.ensures.printed
    ∙ ap (λ items. printed_all (trees (item_trees items))) c.deref.ensures.value)

pub returns-in-Ok-clause-refused : goal.returns-in-Ok-clause-refused
returns-in-Ok-clause-refused c = λ f has. absurd (c.in-Ok.ensures.refused f has)

pub returns-in-Ok-clause-empty : goal.returns-in-Ok-clause-empty
returns-in-Ok-clause-empty c = λ nil.
    let none : c.deref.result.now ≡ [] =
    c.deref.ensures.value ∙ no_items c.in-Ok.items.items
    (c.in-Ok.ensures.spelled [] (none_spelled c.args.s.now nil)) in
    search rules
