use Rattle.std.proofs.Common.{◌+◌, ◌*◌, map, drop}
use Rattle.timefd_items.specs.Content.{content_tree}
use Rattle.timefd_items.specs.Meaning.{inner_tree}
use Rattle.timefd_lang_component.specs.Reserved.{tree_count, trees_count}
use Rattle.timefd_lang_component.specs.Tree.{trees}
use Rattle.timefd_items.proofs.InnerLemmas.{Adding}
use Rattle.timefd_items.proofs.format_description_v3.content.Content.+flatten_borrowed.Given as goal

-- the trees from this one on are left to be added
abbrev pub invariant-flatten_all-items : goal.invariant-flatten_all-items
invariant-flatten_all-items l =
    Adding l.initial.list l.list (map inner_tree (drop l.at l.items)) (map inner_tree l.items)

-- a list is one step before its first member
abbrev pub decreases-flatten : goal.decreases-flatten
decreases-flatten l = 2 * tree_count (content_tree l.self)

abbrev pub decreases-flatten_all : goal.decreases-flatten_all
decreases-flatten_all l = 2 * trees_count (trees (map inner_tree l.items.now)) + 1
