use Rattle.timefd_format.proofs.CompletingLemmas.SoughtLemmas.{no_day}
use Rattle.timefd_format.proofs.completing.sought.date_on_day.Goals as goal

pub returns-in-Err : goal.returns-in-Err
returns-in-Err c =
    no_day c.args.fields.now c.filled.result c.args.years c.args.month c.args.day c.in-Err.field-0 c.filled.ensures
    c.in-Err.ensures
