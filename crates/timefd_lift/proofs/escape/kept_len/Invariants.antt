use Rattle.std.proofs.Common.{◌≡◌, ◌++◌, take, drop}
use Rattle.timefd_lift.specs.Bytewise.{outside}
use Rattle.timefd_lift.proofs.Scanning.{scan}
use Rattle.timefd_lift.proofs.escape.kept_len.Given as goal

-- the bytes so far are kept
abbrev pub invariant-loop-at : goal.invariant-loop-at
invariant-loop-at l = outside l.bytes ≡ take l.at l.bytes ++ scan l.in_component (drop l.at l.bytes)
