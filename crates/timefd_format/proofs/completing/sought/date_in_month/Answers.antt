use Rattle.timefd_format.proofs.CompletingLemmas.SoughtLemmas.{on_day_read}
use Rattle.timefd_format.proofs.completing.sought.date_in_month.Goals as goal

pub returns-in-Some : goal.returns-in-Some
returns-in-Some c =
    on_day_read c.args.fields.now c.args.years c.args.month c.in-Some.day c.date_on_day.result c.in-Some.is
    c.date_on_day.ensures
