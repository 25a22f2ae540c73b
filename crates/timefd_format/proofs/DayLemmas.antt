-- Dates of a day, a month and a year.
use Rattle.std.proofs.Common.{◌≡◌, ◌∙◌, List, [], ◌∷◌, Option, Some, None, Ok, ℕ, ◌-◌, take, drop, length, get_or, map, refl, sym, ap, subst, arith}
use Rattle.std.specs.Prelude.{IfSome}
use Rattle.std.proofs.lemmas.List.{take_rest}
use Rattle.timefd_lang_component.specs.Tree.{Text, Tree, Trees, compound, literal, more_trees, trees}
use Rattle.timefd_lang_node_list.specs.declared.leaves.Leaf.{Leaf}
use Rattle.timefd_lang_node_list.specs.LeafMeaning.{leaf_tree}
use Rattle.timefd_date_moment.specs.declared.fields.short.Numbers.{Numbers}
use Rattle.timefd_date_moment.specs.Fields.Reads.{Point, at, fields_of, followed, read, read_all, read_literal, start}
use Rattle.timefd_date_moment.specs.Fields.Short.{fields_with}
use Rattle.timefd_date_moment.proofs.FieldsLemmas.ShortLemmas.{all_read}

-- Five leaves are read as these trees.
pub five_leaves : (ls : List Leaf) (x0 x1 x2 x3 x4 : Leaf) (a b c d e : Tree) (text : Text) (r : Option Numbers)
    → length ls ≡ 5 → x0 ≡ get_or ls 0 x0 → x1 ≡ get_or ls 1 x1 → x2 ≡ get_or ls 2 x2 → x3 ≡ get_or ls 3 x3
    → x4 ≡ get_or ls 4 x4 → a ≡ leaf_tree x0 → leaf_tree x1 ≡ b → c ≡ leaf_tree x2 → leaf_tree x3 ≡ d
    → e ≡ leaf_tree x4
    → IfSome r (λ n. fields_of (compound (trees (a ∷ b ∷ c ∷ d ∷ e ∷ []))) text ≡ Ok (fields_with n))
    → IfSome r (λ n. fields_of (compound (trees (map leaf_tree ls))) text ≡ Ok (fields_with n))
five_leaves [] x0 x1 x2 x3 x4 a b c d e text r five i0 i1 i2 i3 i4 p q s t u is =
    absurd (omega (arith, five))
five_leaves (l1 ∷ []) x0 x1 x2 x3 x4 a b c d e text r five i0 i1 i2 i3 i4 p q s t u is =
    absurd (omega (arith, five))
five_leaves (l1 ∷ l2 ∷ []) x0 x1 x2 x3 x4 a b c d e text r five i0 i1 i2 i3 i4 p q s t u is =
    absurd (omega (arith, five))
five_leaves (l1 ∷ l2 ∷ l3 ∷ []) x0 x1 x2 x3 x4 a b c d e text r five i0 i1 i2 i3 i4 p q s t u is =
    absurd (omega (arith, five))
five_leaves (l1 ∷ l2 ∷ l3 ∷ l4 ∷ []) x0 x1 x2 x3 x4 a b c d e text r five i0 i1 i2 i3 i4 p q s t u is =
    absurd (omega (arith, five))
five_leaves (l1 ∷ l2 ∷ l3 ∷ l4 ∷ l5 ∷ l6 ∷ ls) x0 x1 x2 x3 x4 a b c d e text r five i0 i1 i2 i3 i4 p q s t u is =
    absurd (omega (arith, five))
five_leaves (l1 ∷ l2 ∷ l3 ∷ l4 ∷ l5 ∷ []) x0 x1 x2 x3 x4 a b c d e text r five i0 i1 i2 i3 i4 p q s t u is =
    let first : a ≡ leaf_tree l1 = p ∙ ap leaf_tree i0 in
    let second : b ≡ leaf_tree l2 = sym q ∙ ap leaf_tree i1 in
    let third : c ≡ leaf_tree l3 = s ∙ ap leaf_tree i2 in
    let fourth : d ≡ leaf_tree l4 = sym t ∙ ap leaf_tree i3 in
    let fifth : e ≡ leaf_tree l5 = u ∙ ap leaf_tree i4 in
    subst (λ ts. IfSome r (λ n. fields_of (compound (trees ts)) text ≡ Ok (fields_with n)))
    (λ i. first i ∷ second i ∷ third i ∷ fourth i ∷ fifth i ∷ []) is

-- One tree is read, and then the others.
next_read : (t : Tree) (ts : Trees) (p q end : Point) → read t p ≡ Ok q → read_all ts q ≡ Ok end
    → read_all (more_trees t ts) p ≡ Ok end
next_read t ts p q end is others = ap (λ x. followed x (λ y. read_all ts y)) is ∙ others

-- Five trees are read one after another, and all of the text with them.
pub five_read : (a b c d e : Tree) (text t1 t2 t3 t4 t5 : Text) (n1 n2 n3 n4 n5 : Numbers)
    → read a (start text) ≡ Ok (at t1 (fields_with n1)) → read b (at t1 (fields_with n1)) ≡ Ok (at t2 (fields_with n2))
    → read c (at t2 (fields_with n2)) ≡ Ok (at t3 (fields_with n3)) → read d (at t3 (fields_with n3)) ≡ Ok (at t4 (fields_with n4))
    → read e (at t4 (fields_with n4)) ≡ Ok (at t5 (fields_with n5)) → t5 ≡ []
    → fields_of (compound (trees (a ∷ b ∷ c ∷ d ∷ e ∷ []))) text ≡ Ok (fields_with n5)
five_read a b c d e text t1 t2 t3 t4 t5 n1 n2 n3 n4 n5 r1 r2 r3 r4 r5 none =
    let p1 : Point = at t1 (fields_with n1) in
    let p2 : Point = at t2 (fields_with n2) in
    let p3 : Point = at t3 (fields_with n3) in
    let p4 : Point = at t4 (fields_with n4) in
    let p5 : Point = at t5 (fields_with n5) in
    let fifth : read_all (trees (e ∷ [])) p4 ≡ Ok p5 = next_read e (trees []) p4 p5 p5 r5 refl in
    let fourth : read_all (trees (d ∷ e ∷ [])) p3 ≡ Ok p5 = next_read d (trees (e ∷ [])) p3 p4 p5 r4 fifth in
    let third : read_all (trees (c ∷ d ∷ e ∷ [])) p2 ≡ Ok p5 = next_read c (trees (d ∷ e ∷ [])) p2 p3 p5 r3 fourth in
    let second : read_all (trees (b ∷ c ∷ d ∷ e ∷ [])) p1 ≡ Ok p5 = next_read b (trees (c ∷ d ∷ e ∷ [])) p1 p2 p5 r2 third in
    let all : read_all (trees (a ∷ b ∷ c ∷ d ∷ e ∷ [])) (start text) ≡ Ok p5 =
    next_read a (trees (b ∷ c ∷ d ∷ e ∷ [])) (start text) p1 p5 r1 second in
    all_read (trees (a ∷ b ∷ c ∷ d ∷ e ∷ [])) text t5 (fields_with n5) (sym all) none

-- What is left after so many bytes, as a slice up to the end.
abbrev pub left_after : ℕ → Text → Text
left_after n text = take (length text - n) (drop n text)

-- The same for an answer that has these numbers, if it has some.
pub five_read_if : (a : Tree) (b : Text) (c : Tree) (d : Text) (e : Tree) (between after text : Text) (k1 k2 k3 k4 k5 : ℕ)
    (n1 n2 n3 n4 n5 : Numbers) (r : Option Numbers) → between ≡ b → after ≡ d
    → let t1 : Text = left_after k1 text in let t2 : Text = left_after k2 t1 in
    let t3 : Text = left_after k3 t2 in let t4 : Text = left_after k4 t3 in
    read a (start text) ≡ Ok (at (drop k1 text) (fields_with n1))
    → read_literal between (at t1 (fields_with n1)) ≡ Ok (at (drop k2 t1) (fields_with n2))
    → read c (at t2 (fields_with n2)) ≡ Ok (at (drop k3 t2) (fields_with n3))
    → read_literal after (at t3 (fields_with n3)) ≡ Ok (at (drop k4 t3) (fields_with n4))
    → read e (at t4 (fields_with n4)) ≡ Ok (at (drop k5 t4) (fields_with n5))
    → IfSome r (λ all. drop k5 t4 ≡ []) → IfSome r (λ all. all ≡ n5)
    → IfSome r (λ all. fields_of (compound (trees (a ∷ literal b ∷ c ∷ literal d ∷ e ∷ []))) text ≡ Ok (fields_with all))
five_read_if a b c d e between after text k1 k2 k3 k4 k5 n1 n2 n3 n4 n5 None is_b is_d r1 r2 r3 r4 r5 whole same = tt
five_read_if a b c d e between after text k1 k2 k3 k4 k5 n1 n2 n3 n4 n5 (Some n) is_b is_d r1 r2 r3 r4 r5 whole same =
    let t1 : Text = left_after k1 text in
    let t2 : Text = left_after k2 t1 in
    let t3 : Text = left_after k3 t2 in
    let t4 : Text = left_after k4 t3 in
    five_read a (literal b) c (literal d) e text t1 t2 t3 t4 (drop k5 t4) n1 n2 n3 n4 n5
    (r1 ∙ ap (λ t. Ok (at t (fields_with n1))) (sym (take_rest text k1)))
    (ap (λ x. read_literal x (at t1 (fields_with n1))) (sym is_b) ∙ r2 ∙ ap (λ t. Ok (at t (fields_with n2))) (sym (take_rest t1 k2)))
    (r3 ∙ ap (λ t. Ok (at t (fields_with n3))) (sym (take_rest t2 k3)))
    (ap (λ x. read_literal x (at t3 (fields_with n3))) (sym is_d) ∙ r4 ∙ ap (λ t. Ok (at t (fields_with n4))) (sym (take_rest t3 k4)))
    r5 whole ∙ ap (λ x. Ok (fields_with x)) (sym same)
