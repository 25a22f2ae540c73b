use Rattle.std.proofs.Common.{rules, ◌≡◌, ◌∙◌, [], length, refl, sym, ap, subst}
use Rattle.timefd_lang_component.specs.Tree.{pack}
use Rattle.timefd_language.specs.declared.description_version.DescriptionVersion.TheVariants.{Three}
use Rattle.timefd_language.specs.Grammar.{no_pieces, Spells, nesting_limit}
use Rattle.timefd_language.proofs.LawLemmas.{one_answer_law}
use Rattle.timefd_parse.specs.Answers.{IsOutput}
use Rattle.timefd_lang_convert.specs.Printing.Answers.{IsMemory}
use Rattle.timefd_lang_convert.specs.Printing.Printed.{printed}
use Rattle.timefd_lang_convert.proofs.ItemLemmas.{no_bytes}
use Rattle.timefd_lang_convert.proofs.normal.normalize_v3.Goals as goal

-- The empty text.

pub returns-then-is_empty-clause-normal : goal.returns-then-is_empty-clause-normal
returns-then-is_empty-clause-normal c =
    let none : length c.args.s.now ≡ 0 = search rules in
    let nil = no_bytes c.args.s.now none in
    ([], (no_pieces, tt, nil, refl), c.new.ensures.bytes)

pub returns-then-is_empty-clause-again : goal.returns-then-is_empty-clause-again
returns-then-is_empty-clause-again c =
    ([], (no_pieces, tt, c.new.ensures.bytes, refl), c.new.ensures.bytes)

pub returns-then-is_empty-clause-spelled : goal.returns-then-is_empty-clause-spelled
returns-then-is_empty-clause-spelled c = λ list spelled.
    let none : length c.args.s.now ≡ 0 = search rules in
    let nil = no_bytes c.args.s.now none in
    c.new.ensures.bytes ∙ ap (λ l. printed (pack l))
    ((one_answer_law Three nesting_limit c.args.s.now).1.one_list [] list
    (no_pieces, tt, nil, refl) spelled)

pub returns-then-is_empty-clause-refused : goal.returns-then-is_empty-clause-refused
returns-then-is_empty-clause-refused c = λ f has.
    let none : length c.args.s.now ≡ 0 = search rules in
    let nil = no_bytes c.args.s.now none in
    (one_answer_law Three nesting_limit c.args.s.now).1.not_both [] f (no_pieces, tt, nil, refl) has

-- What was read is printed.

pub returns-in-Ok-clause-same_items : goal.returns-in-Ok-clause-same_items
returns-in-Ok-clause-same_items c = λ list spelled.
    let is = c.in-Ok.ensures.printed ∙ ap printed (c.view.ensures
    ∙ subst (IsOutput Three list) c.in-Ok-Description.field-0-is
    (c.in-Ok-Description.ensures.spelled list spelled)) in
    subst (λ answer. Spells Three nesting_limit 0 answer list) (sym is)
    (c.reads_back.ensures nesting_limit c.args.s.now list spelled)

pub returns-in-Ok-clause-again : goal.returns-in-Ok-clause-again
returns-in-Ok-clause-again c =
    let found = c.in-Ok-Description.ensures.found in
    let is = c.in-Ok.ensures.printed ∙ ap printed (c.view.ensures
    ∙ subst (IsOutput Three found.0) c.in-Ok-Description.field-0-is found.2) in (
      found.0,
      subst (λ answer. Spells Three nesting_limit 0 answer found.0) (sym is)
          (c.reads_back.ensures nesting_limit c.args.s.now found.0 found.1),
      is,
    )

pub returns-in-Ok-clause-spelled : goal.returns-in-Ok-clause-spelled
returns-in-Ok-clause-spelled c = λ list spelled.
    c.in-Ok.ensures.printed ∙ ap printed (c.view.ensures
    ∙ subst (IsOutput Three list) c.in-Ok-Description.field-0-is
    (c.in-Ok-Description.ensures.spelled list spelled))

pub unreachable-requires : goal.unreachable-requires
unreachable-requires c =
    let found = c.in-Ok-Description.ensures.found in
    subst IsMemory c.in-Err-Unspelled.field-0-is (c.in-Err-Unspelled.ensures.all c.args.s.now (
      found.0,
      found.1,
      sym (c.view.ensures
          ∙ subst (IsOutput Three found.0) c.in-Ok-Description.field-0-is found.2),
    ))
