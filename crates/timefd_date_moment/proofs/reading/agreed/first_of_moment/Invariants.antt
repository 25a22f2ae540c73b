use Rattle.std.proofs.Common.{◌≡◌, drop}
use Rattle.timefd_date_moment.specs.Reading.Shown.{first_false}
use Rattle.timefd_date_moment.specs.Reading.Stamped.{moment_has}
use Rattle.timefd_date_moment.proofs.reading.agreed.first_of_moment.Given as goal

-- the result depends only on what is left
abbrev pub invariant-loop-part : goal.invariant-loop-part
invariant-loop-part l = first_false (moment_has l.fields l.date l.time l.offset) l.parts
    ≡ first_false (moment_has l.fields l.date l.time l.offset) (drop l.part-index l.parts)
