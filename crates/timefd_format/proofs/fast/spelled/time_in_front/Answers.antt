use Rattle.timefd_format.proofs.SpelledLemmas.{time_read}
use Rattle.timefd_format.proofs.fast.spelled.time_in_front.Goals as goal

pub returns-in-Ok : goal.returns-in-Ok
returns-in-Ok c =
    time_read c.args.text.now c.in_ok-hour.rest.now c.in_ok-after.field-0.now c.in_ok-minute.rest.now
    c.in_ok-after-2.field-0.now c.in_ok-second.rest.now c.in_ok-hour.hour c.in_ok-minute.minute
    c.in_ok-second.second c.in-Ok.time c.in_ok-hour.ensures.value c.in_ok-after.ensures
    c.in_ok-minute.ensures.value c.in_ok-after-2.ensures c.in_ok-second.ensures.value c.in-Ok.ensures.found.0
    c.in-Ok.ensures.found.1 c.in-Ok.ensures.found.2 c.in-Ok.ensures.found.3
