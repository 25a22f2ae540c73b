use Rattle.std.proofs.Common.{◌≡◌, ◌∙◌, SFits, ap, pos, w32}
use Rattle.std.proofs.lemmas.Int.{to_z-of_z}
use Rattle.timefd_date_moment.specs.Calendar.{counted}
use Rattle.timefd_format.proofs.SpelledLemmas.{date_read}
use Rattle.timefd_format.proofs.fast.spelled.date_in_front.Goals as goal

pub returns-in-Ok : goal.returns-in-Ok
returns-in-Ok c =
    let fits : SFits w32 c.from.result = record { sfits = c.from.type_inv } in
    let years : c.in-Ok.date.years ≡ counted (pos c.in_ok-year.year) =
    c.in-Ok.ensures.found.0 ∙ ap counted (to_z-of_z w32 c.from.result fits ∙ c.from.ensures) in
    date_read c.args.text.now c.in_ok-year.rest.now c.in_ok-after.field-0.now c.in_ok-month.rest.now
    c.in_ok-after-2.field-0.now c.in_ok-day.rest.now c.in_ok-year.year c.in_ok-month.month c.in_ok-day.day
    c.in-Ok.date c.in_ok-year.ensures.year c.in_ok-year.ensures.small c.in_ok-year.ensures.digit
    c.in_ok-after.ensures c.in_ok-month.ensures.value c.in_ok-after-2.ensures c.in_ok-day.ensures.value
    years c.in-Ok.ensures.found.1 c.in-Ok.ensures.found.2
