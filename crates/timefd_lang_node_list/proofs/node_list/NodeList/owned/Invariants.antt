use Rattle.std.proofs.Common.{◌≡◌, map, take, vec_capacity, vec_len}
use Rattle.timefd_lang_node_list.specs.Nodes.{part}
use Rattle.timefd_lang_node_list.proofs.node_list.NodeList.owned.Given as goal

-- the copies are of those before this one, and there is room for all
abbrev pub invariant-nodes : goal.invariant-nodes
invariant-nodes l = record {
  parts : map part l.copies.items ≡ map part (take l.at l.self.nodes.items);
  count : vec_len l.copies ≡ l.at;
  room : vec_capacity l.copies ≡ vec_len l.self.nodes;
}
