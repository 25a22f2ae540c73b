use Rattle.std.proofs.Common.{◌≡◌, map, ◌+◌, ◌*◌, ◌≤◌, drop}
use Rattle.timefd_items.specs.Meaning.{inner_tree}
use Rattle.timefd_lang_component.specs.Reserved.{tree_count, trees_count}
use Rattle.timefd_lang_component.specs.Tree.{trees}
use Rattle.timefd_items.proofs.format_description_v3.inner.FormatDescriptionV3Inner.+count.Given as goal

-- the total and what is left are the whole
abbrev pub invariant-all_nodes_within-items : goal.invariant-all_nodes_within-items
invariant-all_nodes_within-items l = record {
  within : l.total ≤ l.limit;
  whole : l.total + trees_count (trees (map inner_tree (drop l.at l.items))) ≡ trees_count
      (trees (map inner_tree l.items));
}

-- a list is one step before its first member
abbrev pub decreases-nodes_within : goal.decreases-nodes_within
decreases-nodes_within l = 2 * tree_count (inner_tree l.self.now)

abbrev pub decreases-all_nodes_within : goal.decreases-all_nodes_within
decreases-all_nodes_within l = 2 * trees_count (trees (map inner_tree l.items.now)) + 1
