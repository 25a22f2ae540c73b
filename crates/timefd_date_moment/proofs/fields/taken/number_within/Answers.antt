use Rattle.std.proofs.Common.{arith}
use Rattle.timefd_date_moment.proofs.FieldsLemmas.QuickLemmas.{number_inside}
use Rattle.timefd_date_moment.proofs.fields.taken.number_within.Goals as goal

pub returns-clause-value : goal.returns-clause-value
returns-clause-value c =
    number_inside c.args.lowest c.args.highest c.in_ok-number.number c.args.text.now c.in_ok-number.ensures.value
    (omega (arith, c.if-number-lowest.false)) (omega (arith, c.if-highest-number.false))
