use Rattle.timefd_description.proofs.FormatLemmas.{nothing_shown, strftime_shown}
use Rattle.timefd_date_format.specs.Written.{written_all}
use Rattle.timefd_parse.specs.Tree.{trees}
use Rattle.timefd_description.proofs.formatting.format_strftime.Goals as goal

pub returns-in-Ok-clause-spelled : goal.returns-in-Ok-clause-spelled
returns-in-Ok-clause-spelled c = λ list spelled.
    strftime_shown c.args.moment list c.shown_items.result c.in-Ok.items.items c.deref.result.now
    c.deref.ensures.value (c.in-Ok.ensures.spelled list spelled) c.shown_items.ensures

pub returns-in-Ok-clause-refused : goal.returns-in-Ok-clause-refused
returns-in-Ok-clause-refused c = λ f has. absurd (c.in-Ok.ensures.refused f has)

pub returns-in-Err-clause-spelled : goal.returns-in-Err-clause-spelled
returns-in-Err-clause-spelled c = λ list spelled.
    nothing_shown (written_all c.args.moment (trees list)) c.of_parse_error.result
    (c.of_parse_error.ensures.memory (c.unread_error.ensures.spelled list spelled))

pub returns-in-Err-clause-refused : goal.returns-in-Err-clause-refused
returns-in-Err-clause-refused c = λ f has.
    c.of_parse_error.ensures.fault f (c.unread_error.ensures.refused f has)
