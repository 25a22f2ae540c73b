use Rattle.std.proofs.Common.{◌≡◌, length}
use Rattle.timefd_lang_dialect.specs.Traps.{present_from, present_in}
use Rattle.timefd_lang_dialect.proofs.trapping.present_in.Given as goal

-- what is there so far, and what the rest adds
abbrev pub invariant-spots : goal.invariant-spots
invariant-spots l = present_from l.present l.rest ≡ present_in l.spots

abbrev pub decreases-spots : goal.decreases-spots
decreases-spots l = length l.rest
