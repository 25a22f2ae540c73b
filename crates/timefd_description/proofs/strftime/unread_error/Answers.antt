use Rattle.timefd_language.proofs.DirectiveLemmas.DirectiveLemmas.{one}
use Rattle.timefd_description.proofs.strftime.unread_error.Goals as goal

pub returns-in-Ok-clause-refused : goal.returns-in-Ok-clause-refused
returns-in-Ok-clause-refused c = λ f has.
    let found = c.in-Ok.ensures.found in
    absurd ((one c.args.text.now).not_both found.0 f found.1 has)

pub returns-in-Err-clause-spelled : goal.returns-in-Err-clause-spelled
returns-in-Err-clause-spelled c = λ list spelled.
    absurd ((one c.args.text.now).not_both list _ spelled c.in-Err.ensures.fault)

pub returns-in-Err-clause-refused : goal.returns-in-Err-clause-refused
returns-in-Err-clause-refused c = λ f has.
    (one c.args.text.now).one_fault _ f c.in-Err.ensures.fault has
