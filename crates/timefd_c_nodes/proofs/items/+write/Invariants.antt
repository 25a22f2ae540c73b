use Rattle.std.proofs.Common.{◌≡◌, ◌+◌, map, drop}
use Rattle.timefd_lang_node_list.specs.Item.Meaning.{item_tree}
use Rattle.timefd_lang_component.specs.Reserved.{reserve_all}
use Rattle.timefd_lang_component.specs.Tree.{trees}
use Rattle.timefd_lang_node_list.specs.Nodes.{kept_bytes}
use Rattle.timefd_lang_node_list.specs.Views.{walked_all}
use Rattle.timefd_c_nodes.proofs.WithinLemmas.{Part}
use Rattle.timefd_c_nodes.proofs.items.+write.Given as goal

-- the remaining items are still to be written, and their bytes to be added
abbrev pub invariant-write_all-items : goal.invariant-write_all-items
invariant-write_all-items l = record {
  part : Part (walked_all (trees (map item_tree l.items)))
      (walked_all (trees (map item_tree (drop l.at l.items))))
      l.fn.from l.end l.fn.nodes l.nodes l.fn.literals l.literals;
  capped : l.bytes ≡ kept_bytes l.bytes;
  all : kept_bytes (l.bytes + reserve_all (trees (map item_tree (drop l.at l.items)))) ≡ kept_bytes
      (reserve_all (trees (map item_tree l.items)));
}
