use Rattle.std.proofs.Common.{rules, ◌≡◌, false}
use Rattle.timefd_format.specs.Completing.Years.{fits}
use Rattle.timefd_format.proofs.CompletingLemmas.SoughtLemmas.{in_month_read, misfit}
use Rattle.timefd_format.proofs.completing.sought.date_in_year.Goals as goal

pub returns-then-not-fits : goal.returns-then-not-fits
returns-then-not-fits c =
    let other : fits c.args.fields.now c.args.years ≡ false = search rules in
    misfit c.args.fields.now c.args.years other

pub returns-in-Some : goal.returns-in-Some
returns-in-Some c =
    in_month_read c.args.fields.now c.args.years c.in-Some.month c.date_in_month.result c.in-Some.is
    c.date_in_month.ensures
