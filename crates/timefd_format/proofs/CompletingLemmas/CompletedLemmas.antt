-- The moment of fields that give part of a date.
use Rattle.std.proofs.Common.{◌≡◌, Some, Ok, Err, refl, subst}
use Rattle.timefd_date_moment.specs.declared.date.Date.{Date}
use Rattle.timefd_date_moment.specs.declared.moment.Moment.{Moment}
use Rattle.timefd_format.specs.declared.completing.moments.PartialError.TheVariants as fails
use Rattle.timefd_format.specs.Completing.Completed.{IsCompleted}
use Rattle.timefd_format.specs.Completing.Filled.{clock_fields}
use Rattle.timefd_date_moment.specs.declared.fields.fields.Fields.{Fields}
use Rattle.timefd_date_moment.specs.declared.reading.error.ValueError.{ValueError}
use Rattle.timefd_date_moment.specs.Reading.Shown.{DateAgrees}
use Rattle.timefd_date_moment.specs.Reading.Values.{IsMomentOf}

pub with_date : (f g : Fields) (d : Date) (rest : Moment) → g ≡ clock_fields f → DateAgrees f d → IsMomentOf g (Ok rest)
    → IsCompleted f (Ok (record { date = Some d; time = rest.time; offset = rest.offset }))
with_date f g d rest made agrees is =
    (d, rest, agrees, subst (λ (x : Fields). IsMomentOf x (Ok rest)) made is, refl)

pub no_rest : (f g : Fields) (e : ValueError) → g ≡ clock_fields f → IsMomentOf g (Err e)
    → IsCompleted f (Err (fails.Value e))
no_rest f g e made is = subst (λ (x : Fields). IsMomentOf x (Err e)) made is
