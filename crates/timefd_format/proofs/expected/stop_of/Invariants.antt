use Rattle.std.proofs.Common.{◌≡◌, ◌<◌, ◌≤◌, true, false, length, take}
use Rattle.timefd_format.specs.Expected.{part_trees, stops}
use Rattle.timefd_format.proofs.expected.stop_of.Given as goal

-- the parts between `read` and `unread` aren't tried yet
abbrev pub invariant-halves : goal.invariant-halves
invariant-halves l = (stops (take l.read (part_trees l.parts)) l.word ≡ false)
    × (stops (take l.unread (part_trees l.parts)) l.word ≡ true)
    × (l.read < l.unread) × (l.unread ≤ length (part_trees l.parts))
