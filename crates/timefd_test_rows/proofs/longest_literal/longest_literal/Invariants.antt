use Rattle.std.proofs.Common.{◌≡◌, max}
use Rattle.timefd_items.specs.Description.{description_tree}
use Rattle.timefd_lang_node_list.specs.Turns.{walk_trees}
use Rattle.timefd_lang_node_list.specs.Views.{walked}
use Rattle.timefd_test_rows.specs.Longest.{longest}
use Rattle.timefd_test_rows.proofs.longest_literal.longest_literal.Given as goal

-- the longest literal is the longer of the one so far and the longest in the parts that are left
abbrev pub invariant-parts : goal.invariant-parts
invariant-parts l = max l.bytes (longest (walk_trees l.part-iterator)) ≡ longest
    (walked (description_tree l.fn.description))
