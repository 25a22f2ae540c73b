-- The laws of the definitions.
use Rattle.std.specs.Prelude.{◌≡◌, ◌↔◌, true}
use Rattle.timefd_lang_component.specs.Tree.{Tree}
use Rattle.timefd_lang_node_list.specs.Item.Equality.{same_tree}

-- The test of trees is equality: it holds exactly if the trees are equal.
abbrev pub TreeEquality : Type 0
TreeEquality = (a b : Tree) → (same_tree a b ≡ true) ↔ (a ≡ b)
