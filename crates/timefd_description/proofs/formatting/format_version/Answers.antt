use Rattle.std.proofs.Common.{subst}
use Rattle.timefd_parse.specs.Tree.{trees}
use Rattle.timefd_date_format.specs.Written.{written_all}
use Rattle.timefd_parse.specs.Answers.{IsOutput}
use Rattle.timefd_description.proofs.FormatLemmas.{description_shown, items_shown, nothing_shown}
use Rattle.timefd_description.proofs.formatting.format_version.Goals as goal

pub returns-in-Ok-Items-clause-spelled : goal.returns-in-Ok-Items-clause-spelled
returns-in-Ok-Items-clause-spelled c = λ list spelled.
    items_shown c.args.moment list c.shown_items.result c.args.version c.in-Ok-Items.items
    c.deref.result.now c.deref.ensures.value
    (subst (IsOutput c.args.version list) c.in-Ok-Items.field-0-is
    (c.in-Ok-Items.ensures.spelled list spelled)) c.shown_items.ensures

pub returns-in-Ok-Items-clause-refused : goal.returns-in-Ok-Items-clause-refused
returns-in-Ok-Items-clause-refused c = λ f has. absurd (c.in-Ok-Items.ensures.refused f has)

pub returns-in-Ok-Description-clause-spelled : goal.returns-in-Ok-Description-clause-spelled
returns-in-Ok-Description-clause-spelled c = λ list spelled.
    description_shown c.args.moment list c.shown_description.result c.args.version
    c.in-Ok-Description.description
    (subst (IsOutput c.args.version list) c.in-Ok-Description.field-0-is
    (c.in-Ok-Description.ensures.spelled list spelled)) c.shown_description.ensures

pub returns-in-Ok-Description-clause-refused : goal.returns-in-Ok-Description-clause-refused
returns-in-Ok-Description-clause-refused c = λ f has.
    absurd (c.in-Ok-Description.ensures.refused f has)

pub returns-in-Err-clause-spelled : goal.returns-in-Err-clause-spelled
returns-in-Err-clause-spelled c = λ list spelled.
    nothing_shown (written_all c.args.moment (trees list)) c.of_parse_error.result
    (c.of_parse_error.ensures.memory (c.in-Err.ensures.spelled list spelled))

pub returns-in-Err-clause-refused : goal.returns-in-Err-clause-refused
returns-in-Err-clause-refused c = λ f has.
    c.of_parse_error.ensures.fault f (c.in-Err.ensures.refused f has)
