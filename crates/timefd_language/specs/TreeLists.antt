-- Lists of trees are equal in at most one way, so a struct may keep an equation of them.
use mathlib.Core.HLevel.{Discrete, hedberg}
use mathlib.Core.List.{List-discrete}
use Rattle.std.specs.Prelude.{◌≡◌, Bool, true, false, List}
use Rattle.std.proofs.Common.{refl, sym, ap, ◌∙◌}
use Rattle.std.proofs.lemmas.Bool.{false≢true}
use Rattle.timefd_lang_component.specs.Tree.{Tree}
use Rattle.timefd_lang_node_list.specs.Item.Equality.{same_tree}
use Rattle.timefd_lang_node_list.specs.Item.TreeEquality.{tree_same, tree_sound}

by_test : (a b : Tree) (t : Bool) → same_tree a b ≡ t → Dec (a ≡ b)
by_test a b true e = yes (tree_sound a b e)
by_test a b false e = no (λ p. false≢true (sym e ∙ ap (same_tree a) (sym p) ∙ tree_same a))

trees_decided : Discrete Tree
trees_decided a b = by_test a b (same_tree a b) refl

pub lists_equal_once : (a b : List Tree) → IsProp (a ≡ b)
lists_equal_once = hedberg (List-discrete trees_decided)
