use Rattle.timefd_date_moment.specs.declared.fields.fields.Count.{Count}
use Rattle.timefd_date_moment.proofs.FieldsLemmas.ShortLemmas.{two_shown}
use Rattle.timefd_date_moment.proofs.fields.taken.take_day.Goals as goal

pub returns : goal.returns
returns c =
    two_shown Count.Day c.args.lowest c.args.highest c.in_ok-number.number c.args.text.now c.args.numbers
    c.in_ok-after.after c.in_ok-number.ensures.value c.in_ok-number.ensures.within c.in_ok-after.ensures
