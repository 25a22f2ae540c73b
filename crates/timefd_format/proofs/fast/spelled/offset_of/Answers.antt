use Rattle.std.proofs.Common.{refl}
use Rattle.timefd_format.proofs.SpelledLemmas.{offset_read}
use Rattle.timefd_format.proofs.fast.spelled.offset_of.Goals as goal

pub returns : goal.returns
returns c =
    offset_read c.args.is_behind c.args.text.now c.in_ok-hours.rest.now c.in_ok-after.field-0.now
    c.in_ok-minutes.rest.now c.in_ok-hours.hours c.in_ok-minutes.minutes _ c.signed_offset.result
    c.in_ok-hours.ensures.value c.in_ok-after.ensures c.in_ok-minutes.ensures.value c.if-not-is_empty.ensures
    c.if-hours-gt25.false c.if-minutes-gt59.false refl c.signed_offset.ensures
