-- Uses that are passed over together.
use Rattle.std.proofs.Common.{ℕ, ◌≡◌, ◌≢◌, ◌∙◌, ◌+◌, ◌<◌, ◌≤◌, false, List, [], ◌∷◌, ap, arith, drop, get_or, inl, inr, length, max, nat_lt, refl}
use Rattle.std.proofs.Common.{set, subst, sym, true}
use Rattle.std.proofs.lemmas.Bool.{and_right, cases_Bool}
use Rattle.std.proofs.lemmas.Bool.Decides.{nat_tests}
use Rattle.std.proofs.lemmas.List.{drop_all, drop_more, get_or-set_other, get_or-set_same}
use Rattle.std.proofs.lemmas.Option.{slice_get-get_or}
use Rattle.std.specs.Prelude.{None, Some}
use Rattle.timefd_lint_scan.specs.declared.piece.PlacedToken.{PlacedToken}
use Rattle.timefd_lint_scan.specs.declared.uses.Use.{Use}
use Rattle.timefd_lint_scan.specs.Bytes.{Text}
use Rattle.timefd_lint_scan.specs.Uses.{AreNotBefore, AreRuns, AreUnused, IsFirstUse, IsPast, is_use_of, known_by_name}
use Rattle.timefd_lint_scan.proofs.FirstsLemmas.{passed_over}

pub same_use : (us : List Use) (n : ℕ) (d other : Use) → n < length us → get_or us n d ≡ get_or us n other
same_use us n d other below = cc (slice_get-get_or us n d below, slice_get-get_or us n other below)

pub next_only : (us : List Use) (index : ℕ) → AreNotBefore us index (index + 1)
next_only us index = λ k d after before within. absurd (omega (arith, after, before))

-- A use that isn't before passes on those that it reaches.
pub run_more : (us : List Use) (index next end now : ℕ) (runs : List ℕ) (d1 d2 : Use) → index < length us → next < length us
    → index < next → AreRuns us (index + 1) runs → (get_or us index d1).name.start ≤ (get_or us next d2).name.start
    → end ≡ get_or runs next 0 → now ≡ max end (next + 1) → AreNotBefore us index next → AreNotBefore us index now
run_more us index next end now runs d1 d2 inside within further are order ends is so_far = λ k d after before below.
    elim (cases_Bool (nat_lt k next)) [
      | inl early ↦ so_far k d after (grind (arith, nat_tests, early)) below
      | inr late ↦
          let first : (get_or us index d).name.start ≡ (get_or us index d1).name.start =
          ap (λ (u : Use). u.name.start) (same_use us index d d1 inside) in
          let second : (get_or us next d).name.start ≡ (get_or us next d2).name.start =
          ap (λ (u : Use). u.name.start) (same_use us next d d2 within) in
          elim (cases_Bool (nat_lt next k)) [
            | inl beyond ↦
                let past : next < k = grind (arith, nat_tests, beyond) in
                let reached : k < get_or runs next 0 = omega (arith, past, before, is, ends) in
                let bound : (get_or us next d).name.start ≤ (get_or us k d).name.start =
                are.runs_at next (omega (arith, further)) k d past reached below in
                omega (arith, first, second, order, bound)
            | inr not ↦
                let here : k ≡ next = grind (arith, nat_tests, late, not) in
                let same : (get_or us k d).name.start ≡ (get_or us next d).name.start = ap (λ n. (get_or us n d).name.start) here in
                omega (arith, first, second, order, same)
          ]
    ]

pub no_runs : (us : List Use) (from : ℕ) (runs : List ℕ) → length us ≤ from → AreRuns us from runs
no_runs us from runs none = record { runs_at = λ i at k d after before within. absurd (omega (arith, none, at, after, within)) }

pub one_back : (us : List Use) (n left value : ℕ) (runs : List ℕ) → n + 1 ≡ left → n < length runs → AreNotBefore us n value
    → AreRuns us left runs → AreRuns us n (set runs n value)
one_back us n left value runs next below is are = record {
  runs_at = λ i from. elim (cases_Bool (nat_lt n i)) [
    | inl later ↦
        let after : left ≤ i = grind (arith, nat_tests, later, next) in
        let apart : i ≢ n = λ same. omega (arith, same, after, next) in
        subst (λ e. AreNotBefore us i e) (sym (get_or-set_other runs n i value 0 apart)) (are.runs_at i after)
    | inr not ↦
        let same : i ≡ n = grind (arith, nat_tests, not, from) in
        let here : get_or (set runs n value) i 0 ≡ value =
        ap (λ k. get_or (set runs n value) k 0) same ∙ get_or-set_same runs n value 0 below in
        subst (λ e. AreNotBefore us i e) (sym here) (subst (λ k. AreNotBefore us k value) (sym same) is)
  ];
}

-- A use that isn't of the name, after those that aren't.
pub one_unused : (source : Text) (ps : List PlacedToken) (declared index : ℕ) (other : Use) (us : List Use) → index < length us
    → is_use_of source ps declared (get_or us index other) ≡ false → AreUnused source ps declared index us
    → AreUnused source ps declared (index + 1) us
one_unused source ps declared index other us below not so_far = λ i d before within. elim (cases_Bool (nat_lt i index)) [
  | inl early ↦ so_far i d (grind (arith, nat_tests, early)) within
  | inr late ↦
      let here : i ≡ index = grind (arith, nat_tests, late, before) in
      let same : get_or us i d ≡ get_or us index other = ap (λ n. get_or us n d) here ∙ same_use us index d other below in
      ap (is_use_of source ps declared) same ∙ not
]

-- Uses that aren't before one that is past.
pub run_unused : (source : Text) (ps : List PlacedToken) (declared index end now : ℕ) (other : Use) (us : List Use) (runs : List ℕ)
    → index < length us → AreRuns us 0 runs → end ≡ get_or runs index 0 → now ≡ max end (index + 1)
    → IsPast source ps declared (get_or us index other).name.start
    → AreUnused source ps declared (index + 1) us → AreUnused source ps declared now us
run_unused source ps declared index end now other us runs below are ends is past so_far = λ i d before within.
    elim (cases_Bool (nat_lt i (index + 1))) [
      | inl early ↦ so_far i d (grind (arith, nat_tests, early)) within
      | inr late ↦
          let after : index < i = grind (arith, nat_tests, late) in
          let reached : i < get_or runs index 0 = omega (arith, after, before, is, ends) in
          let bound : (get_or us index d).name.start ≤ (get_or us i d).name.start =
          are.runs_at index (omega arith) i d after reached within in
          let first : (get_or us index d).name.start ≡ (get_or us index other).name.start =
          ap (λ (u : Use). u.name.start) (same_use us index d other below) in
          and_right _ _ (past (get_or us i d).name.start (omega (arith, bound, first)))
    ]

pub found_at : (source : Text) (ps : List PlacedToken) (declared index : ℕ) (other : Use) (us : List Use) → index < length us
    → is_use_of source ps declared (get_or us index other) ≡ true → AreUnused source ps declared index us
    → known_by_name source ps declared us ≡ Some (get_or us index other).known
found_at source ps declared index other us below is so_far =
    let split : drop index us ≡ get_or us index other ∷ drop (index + 1) us = drop_more us index other below in
    let here : known_by_name source ps declared (get_or us index other ∷ drop (index + 1) us) ≡ Some (get_or us index other).known =
    rw is refl in
    sym (passed_over source ps declared index us so_far) ∙ (ap (known_by_name source ps declared) split ∙ here)

pub none_left : (source : Text) (ps : List PlacedToken) (declared index : ℕ) (us : List Use) → length us ≤ index
    → AreUnused source ps declared index us → known_by_name source ps declared us ≡ None
none_left source ps declared index us none so_far =
    sym (passed_over source ps declared index us so_far) ∙ ap (known_by_name source ps declared) (drop_all index us none)

pub first_found : (source : Text) (ps : List PlacedToken) (declared index : ℕ) (other : Use) (us : List Use) → index < length us
    → is_use_of source ps declared (get_or us index other) ≡ true → AreUnused source ps declared index us
    → IsFirstUse source ps declared us index
first_found source ps declared index other us below is so_far = record {
  below = below;
  before = so_far;
  known = λ d.
      found_at source ps declared index d us below (ap (is_use_of source ps declared) (same_use us index d other below) ∙ is) so_far;
}
