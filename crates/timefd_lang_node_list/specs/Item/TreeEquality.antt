-- Equality of trees.
use Rattle.std.specs.Prelude.{true, ◌≡◌, refl, nat_eq}
use Rattle.std.proofs.Common.{[], ◌∷◌, ap, ◌∙◌, subst, eqb-true, eq-eqb}
use Rattle.std.specs.Cmp.Lexicographic.{pointwise}
use Rattle.std.proofs.lemmas.Bool.{and_parts, and_from, false≢true}
use Rattle.std.specs.Bool.{beq}
use Rattle.std.specs.Cmp.{IsEquivalence, decided}
use Rattle.timefd_modifier.proofs.EnumTests.{bool_is}
use Rattle.timefd_lang_component.specs.Tree.{Text, Tree, component, literal, compound, optional, first, Trees, no_trees, more_trees}
use Rattle.timefd_lang_node_list.specs.Item.Equality.{same_tree, same_trees}
use Rattle.timefd_lang_component.specs.ComponentEquality.{component_sound, component_same}

pub text_same : (a : Text) → pointwise nat_eq a a ≡ true
text_same [] = refl
text_same (b ∷ a) = and_from (nat_eq b b) (pointwise nat_eq a a) (eq-eqb b b refl) (text_same a)

pub text_sound : (a b : Text) → pointwise nat_eq a b ≡ true → a ≡ b
text_sound [] [] e = refl
text_sound (x ∷ a) (y ∷ b) e =
    let p = and_parts (nat_eq x y) (pointwise nat_eq a b) e in
    ap (λ z. z ∷ a) (eqb-true x y p.0) ∙ ap (λ c. y ∷ c) (text_sound a b p.1)
text_sound _ _ e = absurd (false≢true e)

mutual
  pub tree_same : (x : Tree) → same_tree x x ≡ true
  tree_same (component a) = component_same a
  tree_same (literal a) = text_same a
  tree_same (compound a) = trees_same a
  tree_same (optional f a) = and_from (beq f f) (same_tree a a) ((bool_is.exact f f).1 refl)
      (tree_same a)
  tree_same (first a) = trees_same a

  pub trees_same : (xs : Trees) → same_trees xs xs ≡ true
  trees_same no_trees = refl
  trees_same (more_trees x xs) = and_from (same_tree x x) (same_trees xs xs) (tree_same x)
      (trees_same xs)

mutual
  pub tree_sound : (x y : Tree) → same_tree x y ≡ true → x ≡ y
  tree_sound (component a) (component b) e = ap component (component_sound a b e)
  tree_sound (literal a) (literal b) e = ap literal (text_sound a b e)
  tree_sound (compound a) (compound b) e = ap compound (trees_sound a b e)
  tree_sound (optional f a) (optional g b) e =
      let p = and_parts (beq f g) (same_tree a b) e in
      ap (λ x. optional x a) ((bool_is.exact f g).0 p.0) ∙ ap (optional g) (tree_sound a b p.1)
  tree_sound (first a) (first b) e = ap first (trees_sound a b e)
  tree_sound _ _ e = absurd (false≢true e)

  pub trees_sound : (xs ys : Trees) → same_trees xs ys ≡ true → xs ≡ ys
  trees_sound no_trees no_trees e = refl
  trees_sound (more_trees x xs) (more_trees y ys) e =
      let p = and_parts (same_tree x y) (same_trees xs ys) e in
      ap (λ t. more_trees t xs) (tree_sound x y p.0) ∙ ap (more_trees y) (trees_sound xs ys p.1)
  trees_sound _ _ e = absurd (false≢true e)

pub same_tree_equiv : IsEquivalence same_tree
same_tree_equiv = decided same_tree
    (λ x y. (tree_sound x y, λ e. subst (λ z. same_tree x z ≡ true) e (tree_same x)))
