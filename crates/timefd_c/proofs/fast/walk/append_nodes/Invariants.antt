use Rattle.std.proofs.Common.{length}
use Rattle.timefd_c.proofs.FastLemmas.WalkLemmas.{IsWritten}
use Rattle.timefd_c.proofs.fast.walk.append_nodes.Given as goal

-- the nodes up to those that are left are written
abbrev pub invariant-nodes : goal.invariant-nodes
invariant-nodes l = IsWritten l.moment l.literals l.nodes l.left l.fn.room l.room l.at

abbrev pub decreases-nodes : goal.decreases-nodes
decreases-nodes l = length l.left
