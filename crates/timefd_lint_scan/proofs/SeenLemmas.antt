-- Names that don't mean any more what they were declared as.
use Rattle.std.proofs.Common.{ℕ, ◌≡◌, ◌+◌, ◌-◌, ◌==◌, ◌≤◌, ◌&&◌, ◌||◌, Bool, false, true, not, List, [], ◌∷◌, ap, arith, inl, inr, nat_le, refl, subst}
use Rattle.std.proofs.lemmas.Bool.{and_left, and_parts, and_right, cases_Bool}
use Rattle.std.proofs.lemmas.Bool.Decides.{nat_tests}
use Rattle.std.specs.Prelude.{bytes_eq, codes}
use Rattle.timefd_lint_scan.specs.declared.piece.PlacedToken.{PlacedToken}
use Rattle.timefd_lint_scan.specs.declared.uses.Use.{Use}
use Rattle.timefd_lint_scan.specs.Aliases.{after_first}
use Rattle.timefd_lint_scan.specs.Bytes.{Text}
use Rattle.timefd_lint_scan.specs.Declarations.{has_begun, is_assigned, is_declared, is_declared_before, most_tokens}
use Rattle.timefd_lint_scan.specs.Scopes.{stays_open}
use Rattle.timefd_lint_scan.specs.Uses.{IsPast, declares_variable, first_seen, first_start, is_alike, is_meant, is_past, is_seen, is_use_of}
use Rattle.timefd_lint_scan.specs.Words.{is_closing, is_opening, text_at, text_before, text_of, tokens_after}

later : (from position start : ℕ) → nat_le from start ≡ false → from ≤ position → nat_le position start ≡ false
later from position start late order = grind (arith, nat_tests, late, order)

-- A block that isn't open any more stays so.
closed : (source : Text) (from position depth : ℕ) (ps : List PlacedToken) → from ≤ position
    → stays_open source from depth ps ≡ false → stays_open source position depth ps ≡ false
closed source from position depth [] order over =
    let open_then : stays_open source from depth [] ≡ true = refl in
    absurd (cc (open_then, over))
closed source from position depth (p ∷ ps) order over = elim (cases_Bool (nat_le from p.start)) [
  | inl early ↦
      let open_then : stays_open source from depth (p ∷ ps) ≡ true = rw early refl in
      absurd (cc (open_then, over))
  | inr late ↦
      let still : nat_le position p.start ≡ false = later from position p.start late order in
      elim (cases_Bool (is_opening (text_of source p))) [
        | inl opens ↦
            let rest : stays_open source from (depth + 1) ps ≡ false = rw (late, opens) at over in
            rw (still, opens) (closed source from position (depth + 1) ps order rest)
        | inr not_open ↦ elim (cases_Bool (is_closing (text_of source p))) [
          | inl closes ↦ elim (cases_Bool (depth == 0)) [
            | inl outer ↦ rw (still, not_open, closes, outer) refl
            | inr inner ↦
                let rest : stays_open source from (depth - 1) ps ≡ false = rw (late, not_open, closes, inner) at over in
                rw (still, not_open, closes, inner) (closed source from position (depth - 1) ps order rest)
          ]
          | inr neither ↦
              let rest : stays_open source from depth ps ≡ false = rw (late, not_open, neither) at over in
              rw (still, not_open, neither) (closed source from position depth ps order rest)
        ]
      ]
]

begun : (source : Text) (from position : ℕ) (ps : List PlacedToken) → from ≤ position
    → has_begun source from ps ≡ true → has_begun source position ps ≡ true
begun source from position [] order is =
    let not_then : has_begun source from [] ≡ false = refl in
    absurd (cc (not_then, is))
begun source from position (p ∷ ps) order is = elim (cases_Bool (nat_le from p.start)) [
  | inl early ↦
      let not_then : has_begun source from (p ∷ ps) ≡ false = rw early refl in
      absurd (cc (not_then, is))
  | inr late ↦
      let still : nat_le position p.start ≡ false = later from position p.start late order in
      elim (cases_Bool (bytes_eq (text_of source p) (codes ";") || bytes_eq (text_of source p) (codes "{"))) [
        | inl here ↦ rw (still, here) refl
        | inr not_here ↦
            let rest : has_begun source from ps ≡ true = rw (late, not_here) at is in
            rw (still, not_here) (begun source from position ps order rest)
      ]
]

declared_still : (source : Text) (from position : ℕ) (before : Text) (after : List PlacedToken) → from ≤ position
    → is_declared source from before after ≡ true → is_declared source position before after ≡ true
declared_still source from position before after order is =
    elim (cases_Bool (bytes_eq before (codes "let") || is_assigned source most_tokens after)) [
      | inl assigned ↦
          let then : has_begun source from after ≡ true = rw assigned at is in
          rw assigned (begun source from position after order then)
      | inr not_assigned ↦ rw not_assigned (rw not_assigned at is)
    ]

-- A name that was declared again stays so.
declared_on : (source name : Text) (from position : ℕ) (before : Text) (ps : List PlacedToken) → from ≤ position
    → is_declared_before source name from before ps ≡ true → is_declared_before source name position before ps ≡ true
declared_on source name from position before [] order is =
    let not_then : is_declared_before source name from before [] ≡ false = refl in
    absurd (cc (not_then, is))
declared_on source name from position before (p ∷ ps) order is = elim (cases_Bool (nat_le from p.start)) [
  | inl early ↦
      let not_then : is_declared_before source name from before (p ∷ ps) ≡ false = rw early refl in
      absurd (cc (not_then, is))
  | inr late ↦
      let still : nat_le position p.start ≡ false = later from position p.start late order in
      elim (cases_Bool (bytes_eq (text_of source p) name && is_declared source position before ps)) [
        | inl here ↦ rw (still, here) refl
        | inr not_here ↦ elim (cases_Bool (bytes_eq (text_of source p) name && is_declared source from before ps)) [
          | inl was ↦
              let both = and_parts (bytes_eq (text_of source p) name) (is_declared source from before ps) was in
              let now : is_declared source position before ps ≡ true = declared_still source from position before ps order both.1 in
              let yes : (bytes_eq (text_of source p) name && is_declared source position before ps) ≡ true = rw (both.0, now) refl in
              absurd (cc (yes, not_here))
          | inr was_not ↦
              let rest : is_declared_before source name from (text_of source p) ps ≡ true = rw (late, was_not) at is in
              rw (still, not_here) (declared_on source name from position (text_of source p) ps order rest)
        ]
      ]
]

-- A name that isn't seen any more stays so.
unseen : (source name : Text) (from position : ℕ) (ps : List PlacedToken) → first_start ps ≤ from → from ≤ position
    → is_seen source name ps from ≡ false → is_seen source name ps position ≡ false
unseen source name from position [] first order over = refl
unseen source name from position (p ∷ ps) first order over =
    let begins : nat_le p.start from ≡ true = grind (arith, nat_tests, first) in
    elim (cases_Bool (stays_open source from 0 (p ∷ ps))) [
      | inr shut ↦ and_left _ _ (and_right _ _ (closed source from position 0 (p ∷ ps) order shut))
      | inl still_open ↦ elim (cases_Bool (is_declared_before source name from name (p ∷ ps))) [
        | inl again ↦
            let on : is_declared_before source name position name (p ∷ ps) ≡ true =
            declared_on source name from position name (p ∷ ps) order again in
            and_right _ _ (ap not on)
        | inr once ↦
            let seen : is_seen source name (p ∷ ps) from ≡ true =
            rw begins (rw still_open (ap not once)) in
            absurd (cc (seen, over))
      ]
    ]

unmeant : (source : Text) (ps : List PlacedToken) (declared from position : ℕ) → declares_variable source ps declared ≡ true
    → first_seen source ps declared ≤ from → from ≤ position → is_meant source ps declared from ≡ false
    → is_meant source ps declared position ≡ false
unmeant source ps declared from position variable first order over =
    elim (cases_Bool (bytes_eq (text_before source ps declared 1) (codes "let"))) [
      | inl lets ↦
          let here : first_seen source ps declared ≡ first_start (tokens_after ps declared) = rw lets refl in
          let then : is_seen source (text_at source ps declared) (tokens_after ps declared) from ≡ false = rw lets at over in
          rw lets (unseen source (text_at source ps declared) from position (tokens_after ps declared)
          (subst (λ n. n ≤ from) here first) order then)
      | inr other ↦ elim (cases_Bool (bytes_eq (text_before source ps declared 1) (codes "for"))) [
        | inl loops ↦
            let body : List PlacedToken = after_first source (codes "{") (tokens_after ps declared) in
            let here : first_seen source ps declared
            ≡ first_start (after_first source (codes "{") (tokens_after ps declared)) = rw (other, loops) refl in
            let then : is_seen source (text_at source ps declared) (after_first source (codes "{") (tokens_after ps declared)) from ≡ false =
            rw (other, loops) at over in
            rw (other, loops) (unseen source (text_at source ps declared) from position
            (after_first source (codes "{") (tokens_after ps declared)) (subst (λ n. n ≤ from) here first) order then)
        | inr neither ↦
            let no : declares_variable source ps declared ≡ false = rw (other, neither) refl in
            absurd (cc (no, variable))
      ]
    ]

-- A variable that a name doesn't mean where it is used isn't meant after that.
pub never_again : (source : Text) (ps : List PlacedToken) (declared : ℕ) (u : Use) → is_use_of source ps declared u ≡ false
    → is_past source ps declared u ≡ true → IsPast source ps declared u.name.start
never_again source ps declared u over past = λ position order.
    let (named, late) = and_parts _ (nat_le (first_seen source ps declared) u.name.start) past in
    let (texts, alike) = and_parts _ (is_alike u.way (bytes_eq (text_before source ps declared 1) (codes "fn"))) named in
    let (variable, same) = and_parts (declares_variable source ps declared) (bytes_eq (text_of source u.name) (text_at source ps declared)) texts in
    let first : first_seen source ps declared ≤ u.name.start = grind (arith, nat_tests, late) in
    let then : is_meant source ps declared u.name.start ≡ false = rw (same, alike) at over in
    unmeant source ps declared u.name.start position variable first order then
