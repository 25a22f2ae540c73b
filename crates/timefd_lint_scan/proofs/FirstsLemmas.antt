-- Where a name is first in a list of uses.
use Rattle.std.proofs.Common.{ℕ, ◌≡◌, ◌∙◌, ◌+◌, ◌<◌, ◌≤◌, ◌⊎◌, false, List, [], ◌∷◌, ap, arith, drop, get_or, inl, inr, length, max, nat_lt}
use Rattle.std.proofs.Common.{refl, suc, sym, zero}
use Rattle.std.proofs.lemmas.Bool.{cases_Bool}
use Rattle.std.proofs.lemmas.Bool.Decides.{nat_tests}
use Rattle.std.proofs.lemmas.Slice.Eq.{bytes_eq-Decides}
use Rattle.std.proofs.lemmas.List.{drop_all}
use Rattle.std.proofs.lemmas.Option.{slice_get-get_or}
use Rattle.std.specs.Prelude.{Option, Some, None, bytes_eq, cond, nat_eq}
use Rattle.timefd_lint_scan.specs.declared.piece.PlacedToken.{PlacedToken}
use Rattle.timefd_lint_scan.specs.declared.uses.Use.{Use}
use Rattle.timefd_lint_scan.specs.Bytes.{Text}
use Rattle.timefd_lint_scan.specs.FoundUses.{AreFirsts}
use Rattle.timefd_lint_scan.specs.Layouts.{fingerprint}
use Rattle.timefd_lint_scan.specs.Uses.{AreBefore, AreUnused, first_seen, is_use_of, known_by_name}
use Rattle.timefd_lint_scan.specs.Words.{text_at, text_of}
use Rattle.timefd_lint_scan.proofs.UsesLemmas.{unused}

-- Uses of other names are passed over.
pub passed_over : (source : Text) (ps : List PlacedToken) (declared n : ℕ) (us : List Use)
    → ((i : ℕ) → (d : Use) → i < n → i < length us → is_use_of source ps declared (get_or us i d) ≡ false)
    → known_by_name source ps declared (drop n us) ≡ known_by_name source ps declared us
passed_over source ps declared zero us none = refl
passed_over source ps declared (suc n) [] none = refl
passed_over source ps declared (suc n) (u ∷ us) none =
    let first : is_use_of source ps declared u ≡ false = none 0 u (omega arith) (omega arith) in
    rw first (passed_over source ps declared n us
    (λ i d below within. none (suc i) d (omega (arith, below)) (omega (arith, within))))

-- A use of another name, or of this one.
pub named : (source : Text) (ps : List PlacedToken) (declared : ℕ) (u : Use)
    → (is_use_of source ps declared u ≡ false) ⊎ (text_of source u.name ≡ text_at source ps declared)
named source ps declared u = elim (cases_Bool (bytes_eq (text_of source u.name) (text_at source ps declared))) [
  | inl same ↦ inr ((bytes_eq-Decides (text_of source u.name) (text_at source ps declared)).0 same)
  | inr other ↦ inl (rw other refl)
]

-- Nothing is kept for a name that isn't used.
pub absent : (source : Text) (ps : List PlacedToken) (declared : ℕ) (us : List Use) (kept : ℕ → Option ℕ)
    → kept (fingerprint (text_at source ps declared)) ≡ None → AreFirsts source us 0 kept
    → known_by_name source ps declared us ≡ None
absent source ps declared us kept none are =
    let never : (i : ℕ) → (d : Use) → i < length us → i < length us → is_use_of source ps declared (get_or us i d) ≡ false =
    λ i d below within. elim (named source ps declared (get_or us i d)) [
      | inl not ↦ not
      | inr same ↦
          let (j, found, first) = are.kept_for i d (omega arith) within in
          let here : kept (fingerprint (text_at source ps declared)) ≡ Some j =
          ap (λ t. kept (fingerprint t)) (sym same) ∙ found in
          absurd (cc (none, here))
    ] in
    sym (passed_over source ps declared (length us) us never)
    ∙ ap (known_by_name source ps declared) (drop_all (length us) us (omega arith))

-- The uses before aren't of the name.
pub skipped : (source : Text) (ps : List PlacedToken) (declared before first : ℕ) (us : List Use) (kept : ℕ → Option ℕ)
    → AreBefore (first_seen source ps declared) before us
    → kept (fingerprint (text_at source ps declared)) ≡ Some first → AreFirsts source us 0 kept
    → AreUnused source ps declared (max before first) us
skipped source ps declared before first us kept early found are = λ i d below within. elim (cases_Bool (nat_lt i before)) [
  | inl soon ↦
      let less : i < before = grind (arith, nat_tests, soon) in
      unused source ps declared (get_or us i d) (early i d less within)
  | inr late ↦ elim (named source ps declared (get_or us i d)) [
    | inl not ↦ not
    | inr same ↦
        let (j, kept_there, from) = are.kept_for i d (omega arith) within in
        let here : kept (fingerprint (text_at source ps declared)) ≡ Some j =
        ap (λ t. kept (fingerprint t)) (sym same) ∙ kept_there in
        let one : first ≡ j = cc (found, here) in
        let after : before ≤ i = grind (arith, nat_tests, late) in
        absurd (omega (arith, below, from, one, after))
  ]
]

pub none_kept : (source : Text) (us : List Use) (from : ℕ) (kept : ℕ → Option ℕ) → length us ≤ from
    → AreFirsts source us from kept
none_kept source us from kept none = record { kept_for = λ i d after within. absurd (omega (arith, none, after, within)) }

same_use : (us : List Use) (n : ℕ) (d other : Use) → n < length us → get_or us n d ≡ get_or us n other
same_use us n d other below = cc (slice_get-get_or us n d below, slice_get-get_or us n other below)

pub one_back : (source : Text) (us : List Use) (n left number : ℕ) (other : Use) (kept now : ℕ → Option ℕ) → n + 1 ≡ left
    → number ≡ fingerprint (text_of source (get_or us n other).name)
    → ((k : ℕ) → now k ≡ cond (nat_eq number k) (Some n) (kept k))
    → AreFirsts source us left kept → AreFirsts source us n now
one_back source us n left number default kept now next is updated are = record {
  kept_for = λ i d from within.
      let k : ℕ = fingerprint (text_of source (get_or us i d).name) in
      elim (cases_Bool (nat_eq number k)) [
        | inl same ↦ (n, updated k ∙ ap (λ b. cond b (Some n) (kept k)) same, from)
        | inr other ↦ elim (cases_Bool (nat_lt n i)) [
          | inl later ↦
              let after : left ≤ i = grind (arith, nat_tests, later, next) in
              let (j, found, first) = are.kept_for i d after within in
              (j, updated k ∙ (ap (λ b. cond b (Some n) (kept k)) other ∙ found), first)
          | inr not ↦
              let here : i ≡ n = grind (arith, nat_tests, not, from) in
              let this : k ≡ number =
              ap (λ m. fingerprint (text_of source (get_or us m d).name)) here
              ∙ (ap (λ (v : Use). fingerprint (text_of source v.name)) (same_use us n d default (omega (arith, here, within)))
              ∙ sym is) in
              absurd (grind (arith, nat_tests, other, this))
        ]
      ];
}
