use Rattle.std.proofs.Common.{arith}
use Rattle.timefd_date_moment.proofs.FieldsLemmas.QuickLemmas.{four_taken}
use Rattle.timefd_date_moment.proofs.fields.quick.take_four.Goals as goal

pub returns-then-take_amount : goal.returns-then-take_amount
returns-then-take_amount c =
    four_taken c.args.field c.args.form c.in_ok-magnitude.field-0 c.args.text.now c.args.fields.now
    c.take_amount.new.fields c.requires c.in_ok-magnitude.ensures.value
    c.in_ok-magnitude.ensures.unsigned c.in_ok-magnitude.ensures.within
    (omega (arith, c.if-magnitude-form.true)) c.if-take_amount.ensures.takes
