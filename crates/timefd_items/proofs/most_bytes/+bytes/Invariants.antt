use Rattle.std.proofs.Common.{◌≡◌, ◌+◌, map, drop}
use Rattle.timefd_lang_node_list.specs.Item.Meaning.{item_tree}
use Rattle.timefd_lang_node_list.specs.Nodes.{kept_bytes}
use Rattle.timefd_lang_component.specs.Reserved.{reserve_all}
use Rattle.timefd_lang_component.specs.Tree.{trees}
use Rattle.timefd_items.proofs.most_bytes.+bytes.Given as goal

-- the bytes so far, and those of the items that are left, are all
abbrev pub invariant-items_bytes-items : goal.invariant-items_bytes-items
invariant-items_bytes-items l = record {
  capped : l.bytes ≡ kept_bytes l.bytes;
  all : kept_bytes (l.bytes + reserve_all (trees (map item_tree (drop l.at l.items)))) ≡ kept_bytes
      (reserve_all (trees (map item_tree l.items)));
}
