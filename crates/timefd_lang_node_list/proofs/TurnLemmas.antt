-- Positions among members, which stay right while the members before them are removed.
use Rattle.std.proofs.Common.{◌≡◌, ◌∙◌, ℕ, zero, suc, ◌+◌, ◌-◌, ◌<◌, ◌≤◌, List, [], ◌∷◌, ◌++◌, length, set, replicate, get_or, sym, ap}
use Rattle.std.proofs.Common.{subst, append_assoc, arith, length-append}
use Rattle.std.proofs.lemmas.List.{take-append-drop}
use Rattle.timefd_lang_node_list.specs.declared.members.Mark.{Mark}
use Rattle.timefd_lang_node_list.specs.Nodes.{before, ending}
use Rattle.timefd_lang_component.specs.Reserved.{trees_count}
use Rattle.timefd_lang_component.specs.Tree.{Tree, trees}
use Rattle.timefd_lang_node_list.specs.Views.{IsMark, AreMarks}
use Rattle.timefd_lang_node_list.proofs.NodeLemmas.{none_of, ending-append, length-before, length-ending, trees_count-append}
use Rattle.timefd_lang_node_list.proofs.ViewLemmas.{ending_frame}

-- the position after all
pub end_mark : (ts : List Tree) → IsMark ts (record { count = 0; nodes = 0 })
end_mark ts h = none_of ts

pub end_marks : (ts : List Tree) (n : ℕ)
    → AreMarks ts (replicate n (record { count = 0; nodes = 0 }))
end_marks ts zero = tt
end_marks ts (suc n) = (end_mark ts, end_marks ts n)

pub mark_at : (ts : List Tree) (ms : List Mark) (i : ℕ) (d : Mark) → i < length ms → AreMarks ts ms
    → IsMark ts (get_or ms i d)
mark_at ts [] i d h a = absurd (omega (arith, h))
mark_at ts (x ∷ ms) zero d h a = a.0
mark_at ts (x ∷ ms) (suc i) d h a = mark_at ts ms i d (omega (arith, h)) a.1

pub marks_set : (ts : List Tree) (ms : List Mark) (i : ℕ) (m : Mark) → IsMark ts m → AreMarks ts ms
    → AreMarks ts (set ms i m)
marks_set ts [] i m h a = tt
marks_set ts (x ∷ ms) zero m h a = (h, a.1)
marks_set ts (x ∷ ms) (suc i) m h a = (a.0, marks_set ts ms i m h a.1)

-- without the first members
later_mark : (us ts : List Tree) (m : Mark) → IsMark (us ++ ts) m → IsMark ts m
later_mark us ts m h g = h (omega (arith, g, length-append us ts)) ∙
    ap (λ vs. trees_count (trees vs)) (ending_frame us ts m.count g)

later_marks : (us ts : List Tree) (ms : List Mark) → AreMarks (us ++ ts) ms → AreMarks ts ms
later_marks us ts [] a = tt
later_marks us ts (m ∷ ms) a = (later_mark us ts m a.0, later_marks us ts ms a.1)

pub marks_after : (ts vs : List Tree) (k : ℕ) (ms : List Mark) → vs ≡ ending k ts → AreMarks ts ms
    → AreMarks vs ms
marks_after ts vs k ms e a =
    subst (λ xs. AreMarks xs ms) (sym e)
    (later_marks (before k ts) (ending k ts) ms
    (subst (λ xs. AreMarks xs ms) (sym (take-append-drop (length ts - k) ts)) a))

-- a position further to the front
ending_more : (ts : List Tree) (c s : ℕ) → c + s ≤ length ts
    → ending (c + s) ts ≡ ending s (before c ts) ++ ending c ts
ending_more ts c s h =
    let us : List Tree = before c ts in
    let vs : List Tree = ending c ts in
    let long : length us ≡ length ts - c = length-before c ts in
    let whole : ts ≡ before s us ++ (ending s us ++ vs) =
    sym (take-append-drop (length ts - c) ts) ∙
    ap (λ xs. xs ++ vs) (sym (take-append-drop (length us - s) us)) ∙
    append_assoc (before s us) (ending s us) vs in
    let count : c + s ≡ length (ending s us ++ vs) =
    omega (
      arith,
      length-append (ending s us) vs,
      length-ending s us (omega (arith, long, h)),
      length-ending c ts (omega (arith, h)),
    ) in
    ap (λ xs. ending (c + s) xs) whole ∙ ending-append (before s us) (ending s us ++ vs) (c + s)
    count

pub mark_more : (ts fs : List Tree) (m : Mark) (s n : ℕ) → IsMark ts m → m.count + s ≤ length ts
    → fs ≡ before m.count ts → n ≡ trees_count (trees (ending s fs))
    → m.nodes + n ≡ trees_count (trees (ending (m.count + s) ts))
mark_more ts fs m s n h g f e =
    omega (
      arith,
      h (omega (arith, g)),
      e,
      ap (λ xs. trees_count (trees (ending s xs))) f,
      ap (λ xs. trees_count (trees xs)) (ending_more ts m.count s g),
      trees_count-append (ending s (before m.count ts)) (ending m.count ts),
    )
