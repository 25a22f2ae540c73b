use Rattle.std.proofs.Common.{map, []}
use Rattle.timefd_lang_node_list.specs.Nodes.{ending, grown_by, part}
use Rattle.timefd_lang_node_list.specs.Tallies.{IsTally}
use Rattle.timefd_lang_node_list.proofs.tally.ending_tally.Given as goal

-- the tally is that of the trees so far
abbrev pub invariant-trees : goal.invariant-trees
invariant-trees l = IsTally (ending l.at (grown_by [] (map part l.nodes))) l.tally
