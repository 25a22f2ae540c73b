use Rattle.std.proofs.Common.{◌≡◌, ◌++◌, length}
use Rattle.timefd_lang_dialect.specs.Traps.{found_from, present_in, traps_in}
use Rattle.timefd_lang_dialect.proofs.trapping.traps_in.Given as goal

-- what was found so far, and what is found in the rest
abbrev pub invariant-spots : goal.invariant-spots
invariant-spots l = l.found.items ++ found_from (present_in l.spots) l.before l.rest ≡ traps_in l.spots

abbrev pub decreases-spots : goal.decreases-spots
decreases-spots l = length l.rest
