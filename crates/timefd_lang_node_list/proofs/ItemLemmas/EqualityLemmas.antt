-- `==` of items.
use Rattle.std.proofs.Common.{◌≡◌, ◌∙◌, sym, Bool, true, Option, Some, IsTrue, subst, ap}
use Rattle.timefd_lang_component.specs.declared.component.Component.{Component}
use Rattle.timefd_lang_component.specs.Tree.{Trees}
use Rattle.timefd_lang_component.specs.Equality.{same_component}
use Rattle.timefd_lang_node_list.specs.Item.Equality.{same_tree, same_trees}
use Rattle.timefd_lang_component.specs.ComponentEquality.{component_sound, component_same}
use Rattle.timefd_lang_node_list.specs.Item.TreeEquality.{tree_sound, tree_same, trees_sound, trees_same}
use Rattle.timefd_lang_node_list.specs.Item.Laws.{TreeEquality}

pub tree_equality_law : TreeEquality
tree_equality_law a b = (tree_sound a b, λ e. subst (λ x. same_tree a x ≡ true) e (tree_same a))

-- what the comparison says if there is a component
pub held_component : (held : Option Component) (a b : Component) (answer : Bool) → held ≡ Some a
    → answer ≡ same_component a b
    → (IsTrue answer → held ≡ Some b) × (held ≡ Some b → IsTrue answer)
held_component held a b answer h e = (
  λ yes. h ∙ ap Some (component_sound a b (sym e ∙ yes)),
  λ same. let alike : a ≡ b = cc in
      e ∙ subst (λ x. same_component a x ≡ true) alike (component_same a),
)

-- what the comparison says if there are trees
pub held_trees : (held : Option Trees) (xs ys : Trees) (answer : Bool) → held ≡ Some xs
    → answer ≡ same_trees xs ys
    → (IsTrue answer → held ≡ Some ys) × (held ≡ Some ys → IsTrue answer)
held_trees held xs ys answer h e = (
  λ yes. h ∙ ap Some (trees_sound xs ys (sym e ∙ yes)),
  λ same. let alike : xs ≡ ys = cc in
      e ∙ subst (λ zs. same_trees xs zs ≡ true) alike (trees_same xs),
)
