use Rattle.timefd_c_nodes.proofs.DatesLemmas.WalkLemmas.{IsReadSoFar}
use Rattle.timefd_c_nodes.proofs.dates.fast.walk.numbers_shown.Given as goal

-- the nodes so far have read the date up to here
abbrev pub invariant-nodes : goal.invariant-nodes
invariant-nodes l = IsReadSoFar l.literals l.nodes l.node-index l.count l.fn.date l.left l.numbers
