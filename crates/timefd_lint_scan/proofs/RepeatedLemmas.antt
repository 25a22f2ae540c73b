-- Names that more than one token declares.
use Rattle.std.proofs.Common.{ℕ, ◌≡◌, ◌∙◌, ◌+◌, ◌<◌, ◌⊎◌, Bool, List, ap, arith, false, inl, inr, nat_lt, subst, sym, true}
use Rattle.std.proofs.lemmas.Bool.{cases_Bool}
use Rattle.std.proofs.lemmas.Bool.Decides.{nat_tests}
use Rattle.timefd_lint_scan.specs.declared.piece.PlacedToken.{PlacedToken}
use Rattle.timefd_lint_scan.specs.declared.repeated.Declaring.{Declaring}
use Rattle.timefd_lint_scan.specs.Bytes.{Text}
use Rattle.timefd_lint_scan.specs.Layouts.{AreNoted, declares_at, fingerprint}
use Rattle.timefd_lint_scan.specs.Words.{text_at}

pub at_first : (source : Text) (declaring : Declaring) (ps : List PlacedToken) (seen repeated : ℕ → Bool)
    → AreNoted source declaring ps 0 seen repeated
at_first source declaring ps seen repeated = record {
  declared = λ i below is. absurd (omega (arith, below));
  names = record { once = λ i j first second is other same apart. absurd (omega (arith, first)) };
}

-- A token that declares nothing changes nothing.
pub no_more : (source : Text) (declaring : Declaring) (ps : List PlacedToken) (n : ℕ) (seen repeated : ℕ → Bool)
    → declares_at source declaring ps n ≡ false → AreNoted source declaring ps n seen repeated
    → AreNoted source declaring ps (n + 1) seen repeated
no_more source declaring ps n seen repeated none so_far =
    let below_n : (i : ℕ) → i < n + 1 → declares_at source declaring ps i ≡ true → i < n =
    λ i below is. elim (cases_Bool (nat_lt i n)) [
      | inl less ↦ grind (arith, nat_tests, less)
      | inr not ↦
          let here : i ≡ n = grind (arith, nat_tests, not, below) in
          let yes : declares_at source declaring ps n ≡ true = subst (λ k. declares_at source declaring ps k ≡ true) here is in
          absurd (cc (none, yes))
    ] in
    record {
      declared = λ i below is. so_far.declared i (below_n i below is) is;
      names = record {
        once = λ i j first second is other same apart.
            so_far.names.once i j (below_n i first is) (below_n j second other) is other same apart;
      };
    }

pub one_more : (source : Text) (declaring : Declaring) (ps : List PlacedToken) (n number : ℕ) (seen repeated seen_now repeated_now : ℕ → Bool)
    → number ≡ fingerprint (text_at source ps n) → seen_now number ≡ true
    → ((k : ℕ) → seen k ≡ true → seen_now k ≡ true)
    → (repeated_now number ≡ false → seen number ≡ false)
    → ((k : ℕ) → repeated_now k ≡ false → repeated k ≡ false)
    → AreNoted source declaring ps n seen repeated → AreNoted source declaring ps (n + 1) seen_now repeated_now
one_more source declaring ps n number seen repeated seen_now repeated_now is_number now_seen stays new kept so_far =
    let order : (i : ℕ) → i < n + 1 → (i < n) ⊎ (i ≡ n) =
    λ i below. elim (cases_Bool (nat_lt i n)) [
      | inl less ↦ inl (grind (arith, nat_tests, less))
      | inr not ↦ inr (grind (arith, nat_tests, not, below))
    ] in
    -- Of a token before with the same name the number was seen.
    let was_seen : (i : ℕ) → i < n → declares_at source declaring ps i ≡ true → text_at source ps i ≡ text_at source ps n
    → seen number ≡ true =
    λ i below is same.
    subst (λ k. seen k ≡ true) (ap fingerprint same ∙ sym is_number) (so_far.declared i below is) in
    record {
      declared = λ i below is. elim (order i below) [
        | inl less ↦ stays (fingerprint (text_at source ps i)) (so_far.declared i less is)
        | inr here ↦ subst (λ k. seen_now k ≡ true) (is_number ∙ ap (λ k. fingerprint (text_at source ps k)) (sym here)) now_seen
      ];
      names = record {
        once = λ i j first second is other same apart. elim (order i first) [
          | inl less ↦ elim (order j second) [
            | inl less_too ↦ so_far.names.once i j less less_too is other same (kept (fingerprint (text_at source ps i)) apart)
            | inr last ↦
                let to_n : text_at source ps i ≡ text_at source ps n = same ∙ ap (text_at source ps) last in
                let at_number : repeated_now number ≡ false =
                subst (λ k. repeated_now k ≡ false) (ap fingerprint to_n ∙ sym is_number) apart in
                let unseen : seen number ≡ false = new at_number in
                let yes : seen number ≡ true = was_seen i less is to_n in
                absurd (cc (unseen, yes))
          ]
          | inr here ↦ elim (order j second) [
            | inl less_too ↦
                let at_n : text_at source ps i ≡ text_at source ps n = ap (text_at source ps) here in
                let at_number : repeated_now number ≡ false =
                subst (λ k. repeated_now k ≡ false) (ap fingerprint at_n ∙ sym is_number) apart in
                let unseen : seen number ≡ false = new at_number in
                let yes : seen number ≡ true = was_seen j less_too other (sym same ∙ at_n) in
                absurd (cc (unseen, yes))
            | inr last ↦ here ∙ sym last
          ]
        ];
      };
    }
