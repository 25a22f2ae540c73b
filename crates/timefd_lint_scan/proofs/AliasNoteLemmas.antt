-- What is noted about aliases.
use Rattle.std.proofs.Common.{ℕ, ◌≡◌, ◌∙◌, ◌+◌, ◌<◌, ◌≤◌, ◌++◌, ◌≢◌, false, List, [], ◌∷◌, ap, arith, get_or, inl, inr, length, length-append, length-set, max}
use Rattle.std.proofs.Common.{min, nat_lt, refl, set, subst, sym, true}
use Rattle.std.proofs.lemmas.Bool.{cases_Bool}
use Rattle.std.proofs.lemmas.Bool.Decides.{nat_tests}
use Rattle.std.proofs.lemmas.List.{get_or-set_other, get_or-set_same, get_or_append_left, get_or_push}
use Rattle.std.proofs.lemmas.Option.{slice_get-get_or}
use Rattle.std.specs.Prelude.{Option, Some, None, cond, nat_eq}
use Rattle.timefd_lint_scan.specs.declared.alias.Alias.{Alias}
use Rattle.timefd_lint_scan.specs.declared.alias_notes.AliasNote.{AliasNote}
use Rattle.timefd_lint_scan.specs.declared.alias_notes.LastAlias.{LastAlias}
use Rattle.timefd_lint_scan.specs.AliasNotes.{AreBegun, AreEnded, AreLasts, AreNoted, ended_of}
use Rattle.timefd_lint_scan.specs.Bytes.{Text}
use Rattle.timefd_lint_scan.specs.Layouts.{fingerprint}
use Rattle.timefd_lint_scan.specs.Words.{text_of}

pub none_noted : (source : Text) (all : List Alias) (kept : ℕ → Option LastAlias) → AreNoted source all 0 [] kept
none_noted source all kept = record {
  counted = refl;
  ended = record { ended_at = λ i k d e before below within same. absurd (omega (arith, below)) };
  lasts = record { kept_for = λ i d below within. absurd (omega (arith, below)) };
}

same_alias : (all : List Alias) (n : ℕ) (d other : Alias) → n < length all → get_or all n d ≡ get_or all n other
same_alias all n d other below = cc (slice_get-get_or all n d below, slice_get-get_or all n other below)

-- What is kept bounds the aliases before that have this number.
bounded : (source : Text) (all : List Alias) (count number i : ℕ) (d : Alias) (kept : ℕ → Option LastAlias) (found : Option LastAlias)
    → AreLasts source all count kept → found ≡ kept number → i < count → i < length all
    → fingerprint (text_of source (get_or all i d).name) ≡ number → (get_or all i d).until ≤ ended_of found
bounded source all count number i d kept found are is below within same =
    let (last, there, order, end) = are.kept_for i d below within in
    let here : found ≡ Some last = is ∙ (ap kept (sym same) ∙ there) in
    subst (λ o. (get_or all i d).until ≤ ended_of o) (sym here) end

pub ended_more : (source : Text) (all : List Alias) (n number : ℕ) (note : AliasNote) (kept : ℕ → Option LastAlias)
    (found : Option LastAlias) (old now : List AliasNote)
    → length old ≡ n → AreLasts source all n kept → found ≡ kept number → note.number ≡ number
    → note.ended ≡ ended_of found → now ≡ old ++ note ∷ [] → AreEnded source all old → AreEnded source all now
ended_more source all n number note kept found old now counted lasts is numbered ended pushed are =
    subst (AreEnded source all) (sym pushed) (record {
      ended_at = λ i k d e before below within same. elim (cases_Bool (nat_lt k (length old))) [
        | inl early ↦
            let less : k < length old = grind (arith, nat_tests, early) in
            let this : get_or (old ++ note ∷ []) k e ≡ get_or old k e = get_or_append_left old (note ∷ []) e k less in
            subst (λ (m : AliasNote). (get_or all i d).until ≤ m.ended) (sym this)
            (are.ended_at i k d e before less within (same ∙ ap (λ (m : AliasNote). m.number) this))
        | inr late ↦
            let last_one : length old ≡ k = grind (arith, nat_tests, late, below, length-append old (note ∷ [])) in
            let this : get_or (old ++ note ∷ []) k e ≡ note = get_or_push old note e k last_one in
            let number_too : fingerprint (text_of source (get_or all i d).name) ≡ number =
            same ∙ (ap (λ (m : AliasNote). m.number) this ∙ numbered) in
            subst (λ m. (get_or all i d).until ≤ m) (sym (ap (λ (m : AliasNote). m.ended) this ∙ ended))
            (bounded source all n number i d kept found lasts is (omega (arith, before, last_one, counted)) within number_too)
      ];
    })

pub lasts_more : (source : Text) (all : List Alias) (n number : ℕ) (other : Alias) (last : LastAlias)
    (found : Option LastAlias) (kept now : ℕ → Option LastAlias)
    → number ≡ fingerprint (text_of source (get_or all n other).name) → found ≡ kept number → last.index ≡ n
    → last.ended ≡ max (ended_of found) (get_or all n other).until
    → ((k : ℕ) → now k ≡ cond (nat_eq number k) (Some last) (kept k))
    → AreLasts source all n kept → AreLasts source all (n + 1) now
lasts_more source all n number other last found kept now numbered is index ended updated are = record {
  kept_for = λ i d below within.
      let k : ℕ = fingerprint (text_of source (get_or all i d).name) in
      elim (cases_Bool (nat_eq number k)) [
        | inl same ↦
            let here : now k ≡ Some last = updated k ∙ ap (λ b. cond b (Some last) (kept k)) same in
            let this : k ≡ number = grind (arith, nat_tests, same) in
            elim (cases_Bool (nat_lt i n)) [
              | inl early ↦
                  let less : i < n = grind (arith, nat_tests, early) in
                  let end : (get_or all i d).until ≤ ended_of found =
                  bounded source all n number i d kept found are is less within this in
                  (last, here, omega (arith, less, index), omega (arith, end, ended))
              | inr late ↦
                  let at : i ≡ n = grind (arith, nat_tests, late, below) in
                  let one : (get_or all i d).until ≡ (get_or all n other).until =
                  ap (λ m. (get_or all m d).until) at
                  ∙ ap (λ (a : Alias). a.until) (same_alias all n d other (omega (arith, at, within))) in
                  (last, here, omega (arith, at, index), omega (arith, one, ended))
            ]
        | inr apart ↦ elim (cases_Bool (nat_lt i n)) [
          | inl early ↦
              let less : i < n = grind (arith, nat_tests, early) in
              let (before, there, order, end) = are.kept_for i d less within in
              (before, updated k ∙ (ap (λ b. cond b (Some last) (kept k)) apart ∙ there), order, end)
          | inr late ↦
              let at : i ≡ n = grind (arith, nat_tests, late, below) in
              let this : k ≡ number =
              ap (λ m. fingerprint (text_of source (get_or all m d).name)) at
              ∙ (ap (λ (a : Alias). fingerprint (text_of source a.name)) (same_alias all n d other (omega (arith, at, within)))
              ∙ sym numbered) in
              absurd (grind (arith, nat_tests, apart, this))
        ]
      ];
}

-- Where the rest of the aliases begins.
pub record AreLater (all : List Alias) (from first : ℕ) : Type 0 where
  pub later : (i : ℕ) → (d : Alias) → from ≤ i → i < length all → first ≤ (get_or all i d).name.start

pub none_later : (all : List Alias) (from first : ℕ) → length all ≤ from → AreLater all from first
none_later all from first none = record { later = λ i d after within. absurd (omega (arith, none, after, within)) }

pub none_begun : (all : List Alias) (from : ℕ) (begins : List ℕ) → length all ≤ from → AreBegun all from begins
none_begun all from begins none = record {
  begun_at = λ i k d at order below within. absurd (omega (arith, none, at, order, within));
}

pub later_more : (all : List Alias) (n left first next : ℕ) (other : Alias) → n + 1 ≡ left → n < length all
    → next ≡ min first (get_or all n other).name.start → AreLater all left first → AreLater all n next
later_more all n left first next other after within is so_far = record {
  later = λ i d from inside. elim (cases_Bool (nat_lt n i)) [
    | inl beyond ↦
        let order : left ≤ i = grind (arith, nat_tests, beyond, after) in
        let bound : first ≤ (get_or all i d).name.start = so_far.later i d order inside in
        omega (arith, bound, is)
    | inr not ↦
        let same : i ≡ n = grind (arith, nat_tests, not, from) in
        let here : (get_or all i d).name.start ≡ (get_or all n other).name.start =
        ap (λ m. (get_or all m d).name.start) same ∙ ap (λ (a : Alias). a.name.start) (same_alias all n d other within) in
        omega (arith, here, is)
  ];
}

pub begun_more : (all : List Alias) (n left next : ℕ) (begins : List ℕ) → n + 1 ≡ left → n < length begins
    → AreLater all n next → AreBegun all left begins → AreBegun all n (set begins n next)
begun_more all n left next begins after below later are = record {
  begun_at = λ i k d from order inside within. elim (cases_Bool (nat_lt n k)) [
    | inl beyond ↦
        let further : left ≤ k = grind (arith, nat_tests, beyond, after) in
        let apart : k ≢ n = λ same. omega (arith, same, further, after) in
        subst (λ m. m ≤ (get_or all i d).name.start) (sym (get_or-set_other begins n k next 0 apart))
        (are.begun_at i k d further order (omega (arith, inside, length-set begins n next)) within)
    | inr not ↦
        let same : k ≡ n = grind (arith, nat_tests, not, from) in
        subst (λ m. m ≤ (get_or all i d).name.start)
        (sym (ap (λ m. get_or (set begins n next) m 0) same ∙ get_or-set_same begins n next 0 below))
        (later.later i d (omega (arith, same, order)) within)
  ];
}
