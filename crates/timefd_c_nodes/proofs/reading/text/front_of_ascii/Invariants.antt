use Rattle.std.proofs.Common.{◌<◌, ◌≤◌, ◌-◌, ℕ, length, slice_index}
use Rattle.timefd_c_nodes.proofs.reading.text.front_of_ascii.Given as goal

abbrev pub invariant-vectors : goal.invariant-vectors
invariant-vectors g l = (l.at ≤ length l.bytes) × ((i : ℕ) → i < l.at → slice_index l.bytes i < 128)

abbrev pub decreases-vectors : goal.decreases-vectors
decreases-vectors g l = length l.bytes - l.at
