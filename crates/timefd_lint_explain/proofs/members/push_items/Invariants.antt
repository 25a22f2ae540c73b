use Rattle.std.proofs.Common.{ℕ, ◌≡◌, drop}
use Rattle.timefd_lang_node_list.specs.Item.Meaning.{item_trees}
use Rattle.timefd_lint_explain.specs.Examples.{Examples}
use Rattle.timefd_lint_explain.specs.Parts.{capped}
use Rattle.timefd_lint_explain.proofs.StandLemmas.{ListedAt}
use Rattle.timefd_lint_explain.proofs.WalkLemmas.{Listed}
use Rattle.timefd_lint_explain.proofs.members.push_items.Given as goal

abbrev pub invariant-loop-member : goal.invariant-loop-member
invariant-loop-member l =
    (Examples l.fn.nodes.items → Examples l.nodes.items)
    × ((d : ℕ) → l.depth ≡ capped d
    → Listed d (item_trees l.members) (drop l.member-index l.members) l.fn.nodes.items
    l.nodes.items)
    × ListedAt l.start (item_trees l.members) (drop l.member-index l.members) l.fn.nodes.items l.nodes.items
