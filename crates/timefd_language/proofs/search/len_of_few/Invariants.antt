use Rattle.std.proofs.Common.{◌≡◌, ◌+◌, drop}
use Rattle.std.specs.List.{prefix_len}
use Rattle.timefd_language.specs.Cut.{is_none_of}
use Rattle.timefd_language.proofs.search.len_of_few.Given as goal

abbrev pub invariant-loop-at : goal.invariant-loop-at
invariant-loop-at l = l.at + prefix_len (is_none_of l.first l.second l.third)
    (drop l.at l.bytes) ≡ prefix_len (is_none_of l.first l.second l.third) l.bytes
