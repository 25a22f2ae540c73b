use Rattle.std.proofs.Common.{◌≡◌, ◌+◌, ◌*◌, map, take}
use Rattle.timefd_items.specs.Meaning.{inner_tree, owned_parts}
use Rattle.timefd_lang_component.specs.Reserved.{tree_count, trees_count}
use Rattle.timefd_lang_component.specs.Tree.{trees}
use Rattle.timefd_items.proofs.format_description_v3.inner.FormatDescriptionV3Inner.+clone.Given as goal

-- the copies are of those before this one
abbrev pub invariant-clone_all-items : goal.invariant-clone_all-items
invariant-clone_all-items l = record {
  same : map inner_tree l.copies.items ≡ map inner_tree (take l.at l.items);
  owned : map owned_parts l.copies.items ≡ map owned_parts (take l.at l.items);
}

-- a list is one step before its first member
abbrev pub decreases-clone : goal.decreases-clone
decreases-clone l = 2 * tree_count (inner_tree l.self.now)

abbrev pub decreases-clone_all : goal.decreases-clone_all
decreases-clone_all l = 2 * trees_count (trees (map inner_tree l.items.now)) + 1
