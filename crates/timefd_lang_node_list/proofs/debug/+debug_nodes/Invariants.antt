use Rattle.std.proofs.Common.{◌+◌, ◌*◌, length}
use Rattle.timefd_lang_node_list.proofs.debug.+debug_nodes.Given as goal

-- the nodes that are left, and over the same nodes the trees
abbrev pub decreases-write_last : goal.decreases-write_last
decreases-write_last g l = length l.nodes.now * length l.nodes.now

abbrev pub decreases-write_ending : goal.decreases-write_ending
decreases-write_ending g l = length l.nodes.now * length l.nodes.now + l.count
