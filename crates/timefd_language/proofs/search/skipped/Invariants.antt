use Rattle.std.proofs.Common.{◌≤◌, ◌-◌, length}
use Rattle.std.specs.List.{prefix_len}
use Rattle.timefd_language.specs.Cut.{is_none_of}
use Rattle.timefd_language.proofs.search.skipped.Given as goal

abbrev pub invariant-vectors : goal.invariant-vectors
invariant-vectors g l = l.at ≤ prefix_len (is_none_of l.first l.second l.third) l.bytes

abbrev pub decreases-vectors : goal.decreases-vectors
decreases-vectors g l = length l.bytes - l.at
