-- What is reported about several things, in a walk that adds one after another.
use Rattle.std.proofs.Common.{ℕ, ◌≡◌, ◌<◌, ◌≤◌, ◌+◌, Bool, true, false, List, [], ◌∷◌, ◌++◌, length, drop, get_or, refl, sym, ap, subst, ◌∙◌}
use Rattle.std.proofs.lemmas.List.{append_assoc, append-nil, drop_all, drop_more}
use Rattle.timefd_lint_lsp.specs.Editor.Each.{Adds, AreIf, AreOf}

-- With the reports about the remaining items after those so far, all is reported.
pub record IsReported {X Y : Type 0} (Is : X → List Y → Type 0) (all left : List X) (before so_far : List Y)
    : Type 0 where
  pub others : (more : List Y) → AreOf Is left more → Adds (AreOf Is all) before (so_far ++ more)

pub at_first : {X Y : Type 0} (Is : X → List Y → Type 0) (all : List X) (before : List Y)
    → IsReported Is all all before before
at_first Is all before = record { others = λ more reported. (more, reported, refl) }

pub one_more : {X Y : Type 0} (Is : X → List Y → Type 0) (all : List X) (i : ℕ) (x other : X)
    (before so_far next : List Y) → i < length all → x ≡ get_or all i other
    → IsReported Is all (drop i all) before so_far → Adds (Is x) so_far next
    → IsReported Is all (drop (i + 1) all) before next
one_more {X} {Y} Is all i x other before so_far next below is reported (one, said, added) =
    let left : drop i all ≡ x ∷ drop (i + 1) all =
    drop_more all i other below ∙ ap (λ y. y ∷ drop (i + 1) all) (sym is) in
    let reported' : IsReported Is all (x ∷ drop (i + 1) all) before so_far =
    subst (λ l. IsReported Is all l before so_far) left reported in
    record {
      others = λ more rest.
          subst (λ t. Adds (AreOf Is all) before t)
          (sym (append_assoc so_far one more) ∙ ap (λ t. t ++ more) (sym added))
          (reported'.others (one ++ more) (one, more, said, rest, refl));
    }

-- One more item, given by its index.
pub one_more_at : {X Y : Type 0} (Is : X → List Y → Type 0) (all : List X) (i : ℕ) (other : X)
    (before so_far next : List Y) → i < length all → IsReported Is all (drop i all) before so_far
    → Adds (Is (get_or all i other)) so_far next → IsReported Is all (drop (i + 1) all) before next
one_more_at Is all i other before so_far next below reported added =
    one_more Is all i (get_or all i other) other before so_far next below refl reported added

pub at_last : {X Y : Type 0} (Is : X → List Y → Type 0) (all : List X) (i : ℕ) (before so_far : List Y)
    → length all ≤ i → IsReported Is all (drop i all) before so_far → Adds (AreOf Is all) before so_far
at_last {X} {Y} Is all i before so_far none reported =
    let last : Adds (AreOf Is all) before (so_far ++ []) =
    (subst (λ l. IsReported Is all l before so_far) (drop_all i all none) reported).others [] refl in
    subst (λ t. Adds (AreOf Is all) before t) (append-nil so_far) last

-- Nothing is added.
pub none_added : {Y : Type 0} (Is : List Y → Type 0) (before : List Y) → Is [] → Adds Is before before
none_added Is before is = ([], is, sym (append-nil before))

-- Two additions are one.
pub both_added : {Y : Type 0} (First Second Both : List Y → Type 0) (before middle after : List Y)
    → ((one rest : List Y) → First one → Second rest → Both (one ++ rest))
    → Adds First before middle → Adds Second middle after → Adds Both before after
both_added First Second Both before middle after join (one, first, a) (rest, second, b) =
    (one ++ rest, join one rest first second, b ∙ ap (λ t. t ++ rest) a ∙ append_assoc before one rest)

-- What isn't wanted isn't added.
pub unwanted : {Y : Type 0} (Is : List Y → Type 0) (is_wanted : Bool) (before : List Y) → is_wanted ≡ false
    → Adds (AreIf is_wanted Is) before before
unwanted Is is_wanted before said =
    subst (λ b. Adds (AreIf b Is) before before) (sym said) (none_added (AreIf false Is) before refl)

pub wanted : {Y : Type 0} (Is : List Y → Type 0) (is_wanted : Bool) (before after : List Y) → is_wanted ≡ true
    → Adds Is before after → Adds (AreIf is_wanted Is) before after
wanted Is is_wanted before after said added = subst (λ b. Adds (AreIf b Is) before after) (sym said) added
