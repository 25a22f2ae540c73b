use Rattle.std.proofs.Common.{refl}
use Rattle.timefd_format.proofs.SpelledLemmas.{time_and_offset}
use Rattle.timefd_format.proofs.fast.spelled.moment_at.Goals as goal

pub returns : goal.returns
returns c =
    time_and_offset c.args.date c.args.text.now c.in_ok-time.rest.now c.in_ok-time.time c.in_ok-offset.offset _
    c.in_ok-time.ensures c.in_ok-offset.ensures refl refl refl
