use Rattle.std.proofs.Common.{◌≡◌, map, ◌+◌, ◌*◌, ◌≤◌, drop}
use Rattle.timefd_items.specs.Meaning.{inner_tree}
use Rattle.timefd_lang_component.specs.Reserved.{reserve_all, tree_count, trees_count}
use Rattle.timefd_lang_component.specs.Tree.{trees}
use Rattle.timefd_items.proofs.format_description_v3.inner.FormatDescriptionV3Inner.+bytes.Given as goal

-- the total and what is left are the whole
abbrev pub invariant-sum_within-items : goal.invariant-sum_within-items
invariant-sum_within-items l = record {
  within : l.total ≤ l.limit;
  whole : l.total + reserve_all (trees (map inner_tree (drop l.at l.items))) ≡ reserve_all
      (trees (map inner_tree l.items));
}

-- a list is one step before its first member
abbrev pub decreases-bytes_within : goal.decreases-bytes_within
decreases-bytes_within l = 2 * tree_count (inner_tree l.self.now)

abbrev pub decreases-sum_within : goal.decreases-sum_within
decreases-sum_within l = 2 * trees_count (trees (map inner_tree l.items.now)) + 1
