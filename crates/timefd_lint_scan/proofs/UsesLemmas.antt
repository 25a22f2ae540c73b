-- Uses of names before a position, which no later declaration is meant by.
use Rattle.std.proofs.Common.{ℕ, ◌≡◌, ◌∙◌, ◌+◌, ◌<◌, ◌≤◌, ◌++◌, false, List, [], ◌∷◌, ap, arith, drop, get_or, inl, inr, length, length-append, max, nat_le}
use Rattle.std.proofs.Common.{nat_lt, refl, subst, suc, sym, zero}
use Rattle.std.proofs.lemmas.Bool.{and_right, cases_Bool}
use Rattle.std.proofs.lemmas.Bool.Decides.{nat_tests}
use Rattle.std.proofs.lemmas.List.{get_or_append_left, get_or_push}
use Rattle.std.specs.Prelude.{bytes_eq, codes}
use Rattle.timefd_lint_scan.specs.declared.piece.PlacedToken.{PlacedToken}
use Rattle.timefd_lint_scan.specs.declared.uses.Use.{Use}
use Rattle.timefd_lint_scan.specs.Aliases.{after_first}
use Rattle.timefd_lint_scan.specs.Bytes.{Text}
use Rattle.timefd_lint_scan.specs.Uses.{AreBefore, AreFurthest, first_seen, first_start, is_meant, is_seen, is_use_of, known_by_name}
use Rattle.timefd_lint_scan.specs.Words.{text_at, text_before, tokens_after}

unseen : (source name : Text) (ps : List PlacedToken) (position : ℕ) → position < first_start ps
    → is_seen source name ps position ≡ false
unseen source name [] position before = refl
unseen source name (p ∷ ps) position before =
    let late : nat_le p.start position ≡ false = grind (arith, nat_tests, before) in
    rw late refl

unmeant : (source : Text) (ps : List PlacedToken) (declared position : ℕ) → position < first_seen source ps declared
    → is_meant source ps declared position ≡ false
unmeant source ps declared position before =
    elim (cases_Bool (bytes_eq (text_before source ps declared 1) (codes "let"))) [
      | inl lets ↦
          let here : first_seen source ps declared ≡ first_start (tokens_after ps declared) = rw lets refl in
          rw lets (unseen source (text_at source ps declared) (tokens_after ps declared) position
          (subst (λ n. position < n) here before))
      | inr other ↦ elim (cases_Bool (bytes_eq (text_before source ps declared 1) (codes "for"))) [
        | inl loops ↦
            let here : first_seen source ps declared
            ≡ first_start (after_first source (codes "{") (tokens_after ps declared)) = rw (other, loops) refl in
            rw (other, loops) (unseen source (text_at source ps declared)
            (after_first source (codes "{") (tokens_after ps declared)) position (subst (λ n. position < n) here before))
        | inr neither ↦
            let here : first_seen source ps declared ≡ 0 = rw (other, neither) refl in
            absurd (omega (arith, here, before))
      ]
    ]

pub unused : (source : Text) (ps : List PlacedToken) (declared : ℕ) (u : Use) → u.name.start < first_seen source ps declared
    → is_use_of source ps declared u ≡ false
unused source ps declared u before = and_right _ _ (unmeant source ps declared u.name.start before)

-- The uses before are passed over.
pub skipped : (source : Text) (ps : List PlacedToken) (declared k : ℕ) (us : List Use)
    → AreBefore (first_seen source ps declared) k us
    → known_by_name source ps declared (drop k us) ≡ known_by_name source ps declared us
skipped source ps declared zero us before = refl
skipped source ps declared (suc k) [] before = refl
skipped source ps declared (suc k) (u ∷ us) before =
    let first : is_use_of source ps declared u ≡ false =
    unused source ps declared u (before 0 u (omega arith) (omega arith)) in
    rw first (skipped source ps declared k us (λ i d below within. before (suc i) d (omega (arith, below)) (omega (arith, within))))

pub none_before : (at : ℕ) (us : List Use) → AreBefore at 0 us
none_before at us = λ i d below within. absurd (omega (arith, below))

pub half_before : (us : List Use) (furthest : List ℕ) (at middle : ℕ) → AreFurthest us furthest
    → middle < length furthest → get_or furthest middle 0 < at → AreBefore at (middle + 1) us
half_before us furthest at middle far within early = λ i d below inside.
    let bound : (get_or us i d).name.start ≤ get_or furthest middle 0 =
    far i middle d (omega (arith, below)) within inside in
    omega (arith, bound, early)

-- How far the fronts reach, up to an index.
pub record AreSoFar (us : List Use) (index last : ℕ) (furthest : List ℕ) : Type 0 where
  pub count : length furthest ≡ index
  pub far : AreFurthest us furthest
  pub bound : (i : ℕ) → (d : Use) → i < index → i < length us → (get_or us i d).name.start ≤ last

pub at_first : (us : List Use) → AreSoFar us 0 0 []
at_first us = record {
  count = refl;
  far = λ i k d up within inside. absurd (omega (arith, within));
  bound = λ i d below inside. absurd (omega (arith, below));
}

next_bound : (us : List Use) (index last next : ℕ) (u : Use)
    → ((i : ℕ) → (d : Use) → i < index → i < length us → (get_or us i d).name.start ≤ last)
    → ((d : Use) → get_or us index d ≡ u) → next ≡ max last u.name.start
    → (i : ℕ) → (d : Use) → i < index + 1 → i < length us → (get_or us i d).name.start ≤ next
next_bound us index last next u bound at is i d below inside = elim (cases_Bool (nat_lt i index)) [
  | inl before ↦
      let early : i < index = grind (arith, nat_tests, before) in
      let old : (get_or us i d).name.start ≤ last = bound i d early inside in
      omega (arith, old, is)
  | inr not ↦
      let same : i ≡ index = grind (arith, nat_tests, not, below) in
      let here : (get_or us i d).name.start ≡ u.name.start =
      ap (λ n. (get_or us n d).name.start) same ∙ ap (λ (v : Use). v.name.start) (at d) in
      omega (arith, here, is)
]

pub one_more : (us : List Use) (index last next : ℕ) (u : Use) (old now : List ℕ) → ((d : Use) → get_or us index d ≡ u)
    → next ≡ max last u.name.start → now ≡ old ++ next ∷ [] → AreSoFar us index last old
    → AreSoFar us (index + 1) next now
one_more us index last next u old now at is pushed so_far =
    let bound : (i : ℕ) → (d : Use) → i < index + 1 → i < length us → (get_or us i d).name.start ≤ next =
    next_bound us index last next u so_far.bound at is in
    subst (λ f. AreSoFar us (index + 1) next f) (sym pushed) (record {
      count = length-append old (next ∷ []) ∙ ap (λ n. n + 1) so_far.count;
      far = λ i k d up within inside. elim (cases_Bool (nat_lt k (length old))) [
        | inl before ↦
            let early : k < length old = grind (arith, nat_tests, before) in
            subst (λ n. (get_or us i d).name.start ≤ n) (sym (get_or_append_left old (next ∷ []) 0 k early))
            (so_far.far i k d up early inside)
        | inr not ↦
            let last_one : length old ≡ k = grind (arith, nat_tests, not, within, length-append old (next ∷ [])) in
            subst (λ n. (get_or us i d).name.start ≤ n) (sym (get_or_push old next 0 k last_one))
            (bound i d (omega (arith, up, last_one, so_far.count)) inside)
      ];
      bound = bound;
    })

pub at_last : (us : List Use) (index last : ℕ) (furthest : List ℕ) → AreSoFar us index last furthest
    → AreFurthest us furthest
at_last us index last furthest so_far = so_far.far
