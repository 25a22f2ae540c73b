-- Uses of the same name that follow each other.
use Rattle.std.proofs.Common.{ℕ, ◌≡◌, ◌≢◌, ◌∙◌, ◌+◌, ◌<◌, ◌≤◌, List, ap, arith, get_or, inl, inr, length, max, nat_lt, set, subst, sym}
use Rattle.std.proofs.lemmas.Bool.{cases_Bool}
use Rattle.std.proofs.lemmas.Bool.Decides.{nat_tests}
use Rattle.std.proofs.lemmas.List.{get_or-set_other, get_or-set_same}
use Rattle.std.specs.Prelude.{Option, Some, None, cond, nat_eq}
use Rattle.timefd_lint_scan.specs.declared.uses.Use.{Use}
use Rattle.timefd_lint_scan.specs.Bytes.{Text}
use Rattle.timefd_lint_scan.specs.Following.{AreLasts, AreNexts, AreOthers}
use Rattle.timefd_lint_scan.specs.FoundUses.{AreFirsts}
use Rattle.timefd_lint_scan.specs.Layouts.{fingerprint}
use Rattle.timefd_lint_scan.specs.Words.{text_of}
use Rattle.timefd_lint_scan.proofs.RunsLemmas.{same_use}

-- What is kept for the name of a use is the next one with its name.
pub next_found : (source : Text) (us : List Use) (index next : ℕ) (other : Use) (kept : ℕ → Option ℕ) → index < length us
    → AreFirsts source us (index + 1) kept → kept (fingerprint (text_of source (get_or us index other).name)) ≡ Some next
    → AreOthers source us index next
next_found source us index next other kept below firsts found = λ k d e after before within same.
    let (j, there, first) = firsts.kept_for k d (omega (arith, after)) within in
    let names : text_of source (get_or us k d).name ≡ text_of source (get_or us index other).name =
    same ∙ ap (λ (u : Use). text_of source u.name) (same_use us index e other below) in
    let here : kept (fingerprint (text_of source (get_or us index other).name)) ≡ Some j =
    ap (λ t. kept (fingerprint t)) (sym names) ∙ there in
    let one : next ≡ j = cc (found, here) in
    omega (arith, first, one, before)

-- No use after one has its name if nothing is kept for that.
pub next_absent : (source : Text) (us : List Use) (index end : ℕ) (other : Use) (kept : ℕ → Option ℕ) → index < length us
    → AreFirsts source us (index + 1) kept → kept (fingerprint (text_of source (get_or us index other).name)) ≡ None
    → AreOthers source us index end
next_absent source us index end other kept below firsts absent = λ k d e after before within same.
    let (j, there, first) = firsts.kept_for k d (omega (arith, after)) within in
    let names : text_of source (get_or us k d).name ≡ text_of source (get_or us index other).name =
    same ∙ ap (λ (u : Use). text_of source u.name) (same_use us index e other below) in
    let here : kept (fingerprint (text_of source (get_or us index other).name)) ≡ Some j =
    ap (λ t. kept (fingerprint t)) (sym names) ∙ there in
    absurd (cc (absent, here))

pub no_nexts : (source : Text) (us : List Use) (from : ℕ) (nexts : List ℕ) → length us ≤ from → AreNexts source us from nexts
no_nexts source us from nexts none = record { next_at = λ i at within. absurd (omega (arith, none, at, within)) }

pub one_back : (source : Text) (us : List Use) (n left value : ℕ) (nexts : List ℕ) → n + 1 ≡ left → n < length nexts
    → AreOthers source us n value → AreNexts source us left nexts → AreNexts source us n (set nexts n value)
one_back source us n left value nexts next below is are = record {
  next_at = λ i from within. elim (cases_Bool (nat_lt n i)) [
    | inl later ↦
        let after : left ≤ i = grind (arith, nat_tests, later, next) in
        let apart : i ≢ n = λ same. omega (arith, same, after, next) in
        subst (λ e. AreOthers source us i e) (sym (get_or-set_other nexts n i value 0 apart)) (are.next_at i after within)
    | inr not ↦
        let same : i ≡ n = grind (arith, nat_tests, not, from) in
        let here : get_or (set nexts n value) i 0 ≡ value =
        ap (λ k. get_or (set nexts n value) k 0) same ∙ get_or-set_same nexts n value 0 below in
        subst (λ e. AreOthers source us i e) (sym here) (subst (λ k. AreOthers source us k value) (sym same) is)
  ];
}

-- Nothing is between a use and the next one.
pub at_least_one : (source : Text) (us : List Use) (index end now : ℕ) → now ≡ max end (index + 1) → AreOthers source us index end
    → AreOthers source us index now
at_least_one source us index end now is others = λ k d e after before within.
    others k d e after (omega (arith, after, before, is)) within

pub no_lasts : (source : Text) (us : List Use) (kept : ℕ → Option ℕ) → AreLasts source us 0 kept
no_lasts source us kept = record { kept_for = λ i d below within. absurd (omega (arith, below)) }

pub one_more_last : (source : Text) (us : List Use) (n number : ℕ) (other : Use) (kept now : ℕ → Option ℕ)
    → number ≡ fingerprint (text_of source (get_or us n other).name)
    → ((k : ℕ) → now k ≡ cond (nat_eq number k) (Some n) (kept k))
    → AreLasts source us n kept → AreLasts source us (n + 1) now
one_more_last source us n number default kept now is updated are = record {
  kept_for = λ i d below within.
      let k : ℕ = fingerprint (text_of source (get_or us i d).name) in
      elim (cases_Bool (nat_eq number k)) [
        | inl same ↦ (n, updated k ∙ ap (λ b. cond b (Some n) (kept k)) same, omega (arith, below))
        | inr other ↦ elim (cases_Bool (nat_lt i n)) [
          | inl early ↦
              let (j, found, last) = are.kept_for i d (grind (arith, nat_tests, early)) within in
              (j, updated k ∙ (ap (λ b. cond b (Some n) (kept k)) other ∙ found), last)
          | inr late ↦
              let here : i ≡ n = grind (arith, nat_tests, late, below) in
              let this : k ≡ number =
              ap (λ m. fingerprint (text_of source (get_or us m d).name)) here
              ∙ (ap (λ (v : Use). fingerprint (text_of source v.name)) (same_use us n d default (omega (arith, here, within)))
              ∙ sym is) in
              absurd (grind (arith, nat_tests, other, this))
        ]
      ];
}
