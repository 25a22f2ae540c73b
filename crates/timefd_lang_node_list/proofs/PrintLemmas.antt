-- What it takes to print a list of nodes: which trees are left before the last, and that each step
-- has less to print.
use Rattle.std.proofs.Common.{◌≡◌, ◌∙◌, ℕ, suc, zero, ◌+◌, ◌*◌, ◌-◌, ◌<◌, ◌≤◌, List, [], ◌∷◌, map, length, take, refl, ap, arith}
use Rattle.std.proofs.Common.{length-append}
use Rattle.std.proofs.Math.Nat.{mul-le-mul_left, mul-le-mul_right}
use Rattle.std.proofs.Math.Seq.{take-append_seam}
use Rattle.timefd_lang_node_list.specs.declared.node.Node.{Node}
use Rattle.timefd_lang_node_list.specs.Nodes.{Part, part, arity, made, before, ending, grown, grown_by, Fit}
use Rattle.timefd_lang_component.specs.Reserved.{trees_count}
use Rattle.timefd_lang_component.specs.Tree.{Tree, trees}
use Rattle.timefd_lang_node_list.proofs.NodeLemmas.{Back, back, length-before, length-parts}

parts-take : (n : ℕ) (xs : List Node) → map part (take n xs) ≡ take n (map part xs)
parts-take zero xs = refl
parts-take (suc n) [] = refl
parts-take (suc n) (x ∷ xs) = ap (λ ps. part x ∷ ps) (parts-take n xs)

-- without the nodes of the last trees the others are left
pub left_without : (xs : List Node) (k m : ℕ) → Fit [] (map part xs)
    → k ≤ length (grown_by [] (map part xs))
    → m ≡ trees_count (trees (ending k (grown_by [] (map part xs))))
    → k + length (grown_by [] (map part (take (length xs - m) xs))) ≡ length
    (grown_by [] (map part xs))
left_without xs k m f h e =
    let b : Back (map part xs) k = back (map part xs) k f h in
    let position : length xs - m ≡ length b.kept =
    omega (arith, e, b.count, ap length b.split, length-append b.kept b.rest, length-parts xs)
    in
    let kept : map part (take (length xs - m) xs) ≡ b.kept =
    parts-take (length xs - m) xs ∙ ap (λ n. take n (map part xs)) position ∙
    ap (λ ps. take (length b.kept) ps) b.split ∙ take-append_seam b.kept b.rest in
    omega (
      arith,
      h,
      ap (λ ps. length (grown_by [] ps)) kept,
      ap length b.reads,
      length-before k (grown_by [] (map part xs)),
    )

-- there are no more trees than nodes
trees_most : (ts : List Tree) (ps : List Part) → length (grown_by ts ps) ≤ length ts + length ps
trees_most ts [] = omega arith
trees_most ts (p ∷ ps) =
    let a : ℕ = arity p.role in
    omega (
      arith,
      trees_most (grown ts p) ps,
      length-append (before a ts) (made p.role (ending a ts) ∷ []),
      length-before a ts,
    )

pub trees_at_most : (xs : List Node) → length (grown_by [] (map part xs)) ≤ length xs
trees_at_most xs = omega (arith, trees_most [] (map part xs), length-parts xs)

-- fewer nodes, and no more trees than those
pub square_at_most : (a b : ℕ) → a ≤ b → a * a ≤ b * b
square_at_most a b h = omega (arith, mul-le-mul_left a h, mul-le-mul_right b h)

pub square_below : (a b c : ℕ) → a < b → c ≤ a → a * a + c < b * b
square_below a b c h g =
    let more : suc a * a ≤ b * a = mul-le-mul_right a h in
    let last : b * suc a ≤ b * b = mul-le-mul_left b h in
    omega (arith, more, last)

pub members_fall : (xs ys : List Node) (k : ℕ) → length xs < length ys
    → k ≤ length (grown_by [] (map part xs)) → length xs * length xs + k < length ys * length ys
members_fall xs ys k h g = square_below (length xs) (length ys) k h
    (omega (arith, g, trees_at_most xs))
