use Rattle.std.proofs.Common.{false, true}
use Rattle.timefd_format.proofs.SpelledLemmas.{with_sign}
use Rattle.timefd_format.proofs.fast.spelled.offset_spelled.Goals as goal

pub returns-in-Some-after : goal.returns-in-Some-after
returns-in-Some-after c =
    with_sign false c.args.text.now c.in-Some-after.rest.now c.in_ok-offset_of.field-0 c.in-Some-after.ensures
    c.in_ok-offset_of.ensures

pub returns : goal.returns
returns c =
    with_sign true c.args.text.now c.in_ok-rest.rest.now c.in_ok-offset_of-2.field-0 c.in_ok-rest.ensures
    c.in_ok-offset_of-2.ensures
