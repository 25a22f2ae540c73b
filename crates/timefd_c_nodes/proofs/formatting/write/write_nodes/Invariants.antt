use Rattle.timefd_date_format.specs.declared.cursor.WriteCursor.TheVariants as cursor
use Rattle.timefd_c_nodes.proofs.FormattingLemmas.WalkLemmas.{IsWalked}
use Rattle.timefd_c_nodes.proofs.formatting.write.write_nodes.Given as goal

-- the nodes after these are written, and the nodes in front of them remain
abbrev pub invariant-nodes : goal.invariant-nodes
invariant-nodes l =
    IsWalked l.moment l.literals l.nodes l.left l.need l.skip l.fn.buffer l.buffer (cursor.At l.at)

abbrev pub decreases-nodes : goal.decreases-nodes
decreases-nodes l = l.left
