use Rattle.std.proofs.Common.{rules, ◌≡◌, ◌∙◌, [], refl, sym, ap, subst}
use Rattle.timefd_lang_node_list.specs.Item.Meaning.{item_trees}
use Rattle.timefd_language.specs.declared.description_version.DescriptionVersion.TheVariants.{Two, Three}
use Rattle.timefd_language.specs.Grammar.{no_pieces, Spells, nesting_limit}
use Rattle.timefd_parse.specs.Answers.{IsOutput, HasStrings}
use Rattle.timefd_lift.specs.Plain.{ArePlainItems}
use Rattle.timefd_lift.specs.Written.{written}
use Rattle.timefd_lift.proofs.PlainItems.{spelled-plain, no-items}
use Rattle.timefd_lift.proofs.from_two.v2_to_v3.Goals as goal

pub written-requires : goal.written-requires
written-requires c =
    let read = c.in-Ok-Items.ensures in
    let is = c.in-Ok-Items.field-0-is in
    subst ArePlainItems (sym c.deref.ensures.value)
    (spelled-plain nesting_limit c.args.s.now read.found.0 c.in-Ok-Items.items.items read.found.1
    (subst (IsOutput Two read.found.0) is read.found.2)
    (subst HasStrings is read.strings))

pub returns-in-Ok-clause-spelled : goal.returns-in-Ok-clause-spelled
returns-in-Ok-clause-spelled c = λ list s.
    c.in-Ok.ensures.written ∙ ap (λ items. written (item_trees items)) c.deref.ensures.value
    ∙ ap written (subst (IsOutput Two list) c.in-Ok-Items.field-0-is
    (c.in-Ok-Items.ensures.spelled list s))

pub returns-in-Ok-clause-same_items : goal.returns-in-Ok-clause-same_items
returns-in-Ok-clause-same_items c = λ list s.
    let is = c.in-Ok.ensures.written ∙
    ap (λ items. written (item_trees items)) c.deref.ensures.value
    ∙ ap written (subst (IsOutput Two list) c.in-Ok-Items.field-0-is
    (c.in-Ok-Items.ensures.spelled list s)) in
    subst (λ answer. Spells Three nesting_limit 0 answer list) (sym is)
    (c.writing.ensures nesting_limit c.args.s.now list s)

pub returns-in-Ok-clause-alike : goal.returns-in-Ok-clause-alike
returns-in-Ok-clause-alike c = λ list s.
    let is = c.in-Ok.ensures.written ∙
    ap (λ items. written (item_trees items)) c.deref.ensures.value
    ∙ ap written (subst (IsOutput Two list) c.in-Ok-Items.field-0-is
    (c.in-Ok-Items.ensures.spelled list s)) in
    subst (λ answer. Spells Two nesting_limit 0 answer list) (sym is)
    (c.read_alike.ensures nesting_limit c.args.s.now list s)

pub returns-in-Ok-clause-again : goal.returns-in-Ok-clause-again
returns-in-Ok-clause-again c =
    let list = c.in-Ok-Items.ensures.found.0 in
    let s = c.in-Ok-Items.ensures.found.1 in
    let is = c.in-Ok.ensures.written ∙
    ap (λ items. written (item_trees items)) c.deref.ensures.value
    ∙ ap written (subst (IsOutput Two list) c.in-Ok-Items.field-0-is
    (c.in-Ok-Items.ensures.spelled list s)) in (
      list,
      subst (λ answer. Spells Two nesting_limit 0 answer list) (sym is)
          (c.read_alike.ensures nesting_limit c.args.s.now list s),
      is,
    )

pub returns-in-Ok-Items-clause-empty : goal.returns-in-Ok-Items-clause-empty
returns-in-Ok-Items-clause-empty c = λ nil.
    let none : c.deref.result.now ≡ [] =
    c.deref.ensures.value ∙ no-items c.in-Ok-Items.items.items
    (subst (IsOutput Two []) c.in-Ok-Items.field-0-is
    (c.in-Ok-Items.ensures.spelled [] (no_pieces, tt, nil, refl))) in
    search rules

pub returns-in-Ok-Items-clause-refused : goal.returns-in-Ok-Items-clause-refused
returns-in-Ok-Items-clause-refused c = λ f has. absurd (c.in-Ok-Items.ensures.refused f has)
