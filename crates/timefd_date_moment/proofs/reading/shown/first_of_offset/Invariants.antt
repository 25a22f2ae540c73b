use Rattle.std.proofs.Common.{◌≡◌, drop}
use Rattle.timefd_date_moment.specs.Reading.Shown.{offset_has, first_false}
use Rattle.timefd_date_moment.proofs.reading.shown.first_of_offset.Given as goal

-- the result depends only on what is left
abbrev pub invariant-loop-part : goal.invariant-loop-part
invariant-loop-part l = first_false (offset_has l.fields l.offset) l.parts
    ≡ first_false (offset_has l.fields l.offset) (drop l.part-index l.parts)
