use Rattle.std.proofs.Common.{arith}
use Rattle.timefd_date_moment.proofs.FieldsLemmas.QuickLemmas.{two_taken}
use Rattle.timefd_date_moment.proofs.fields.quick.take_two.Goals as goal

pub returns-then-take_count : goal.returns-then-take_count
returns-then-take_count c =
    two_taken c.args.field c.args.lowest c.args.highest c.in_ok-number.number c.args.text.now
    c.args.fields.now c.take_count.new.fields c.in_ok-number.ensures.value c.in_ok-number.ensures.within
    (omega (arith, c.if-lowest-number.true)) (omega (arith, c.if-number-highest.true))
    c.if-take_count.ensures.takes
