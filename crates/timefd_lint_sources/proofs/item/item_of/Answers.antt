use Rattle.timefd_lint_sources.proofs.ItemLemmas.{no_end, no_name, no_nested, the_item}
use Rattle.timefd_lint_sources.proofs.item.item_of.Goals as goal

pub returns-in_default-clause-all : goal.returns-in_default-clause-all
returns-in_default-clause-all c = λ first after rest is.
    no_name c.args.version c.args.text.now c.bracket_name.result c.bracket_name.ensures.heads
    c.in_default.not-Some first after rest is

pub returns-in_default-first_nested-clause-all : goal.returns-in_default-first_nested-clause-all
returns-in_default-first_nested-clause-all c = λ first after rest is.
    no_nested c.args.version c.args.text.now c.bracket_name.result c.first_nested.result
    (c.in-Some.field-0-0, c.in-Some.nested) c.bracket_name.ensures.heads c.in-Some.is
    c.first_nested.ensures.nested c.in_default-first_nested.not-Some first after rest is

pub returns-in-Some-after_bracket-clause-all : goal.returns-in-Some-after_bracket-clause-all
returns-in-Some-after_bracket-clause-all c = λ first after rest is.
    the_item c.args.version c.args.text.now c.bracket_name.result c.first_nested.result
    (c.in-Some.field-0-0, c.in-Some.nested) (c.in-Some-first_nested.first, c.in-Some-first_nested.after)
    c.after_bracket.result c.in-Some-after_bracket.rest
    c.bracket_name.ensures.heads c.in-Some.is c.first_nested.ensures.nested c.in-Some-first_nested.is
    c.after_bracket.ensures.all c.in-Some-after_bracket.is first after rest is

pub returns-in-None-clause-all : goal.returns-in-None-clause-all
returns-in-None-clause-all c = λ first after rest is.
    no_end c.args.version c.args.text.now c.bracket_name.result c.first_nested.result
    (c.in-Some.field-0-0, c.in-Some.nested) (c.in-Some-first_nested.first, c.in-Some-first_nested.after)
    c.after_bracket.result
    c.bracket_name.ensures.heads c.in-Some.is c.first_nested.ensures.nested c.in-Some-first_nested.is
    c.after_bracket.ensures.all c.in-None.is first after rest is
