use Rattle.std.proofs.Common.{arith}
use Rattle.timefd_date_moment.specs.declared.fields.fields.Amount.{Amount}
use Rattle.timefd_date_moment.specs.Fields.Short.{fields_with}
use Rattle.timefd_date_moment.proofs.FieldsLemmas.QuickLemmas.{four_taken}
use Rattle.timefd_date_moment.proofs.fields.taken.take_four.Goals as goal

pub returns : goal.returns
returns c =
    four_taken Amount.Year c.args.form c.in_ok-year.year c.args.text.now (fields_with c.args.numbers)
    (fields_with c.in_ok-after.after) c.requires c.in_ok-year.ensures.value c.in_ok-year.ensures.unsigned
    c.in_ok-year.ensures.within (omega (arith, c.if-year-form.false)) c.in_ok-after.ensures
