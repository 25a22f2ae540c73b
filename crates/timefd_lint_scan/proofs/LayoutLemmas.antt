-- What is noted about the tokens of a source.
use Rattle.std.proofs.Common.{ℕ, ◌≡◌, ◌∙◌, ◌+◌, ◌-◌, ◌<◌, ◌≤◌, ◌&&◌, ◌||◌, Bool, false, true, List, [], ◌∷◌, ap, arith, drop, get_or, inl, inr, length, nat_le}
use Rattle.std.proofs.Common.{refl, subst, suc, suc-add, sym, zero, zero-add}
use Rattle.std.proofs.lemmas.Bool.{and_parts, cases_Bool, or_from, or_left, or_right}
use Rattle.std.proofs.lemmas.Bool.Decides.{nat_tests}
use Rattle.std.proofs.lemmas.Slice.Eq.{bytes_eq-Decides}
use Rattle.std.specs.Prelude.{bytes_eq, codes}
use Rattle.timefd_lint_scan.specs.declared.piece.PlacedToken.{PlacedToken}
use Rattle.timefd_lint_scan.specs.declared.repeated.Declaring.{Declaring}
use Rattle.timefd_lint_scan.specs.declared.repeated.Declaring.TheVariants.{Surely, Maybe}
use Rattle.timefd_lint_scan.specs.Bytes.{Text}
use Rattle.timefd_lint_scan.specs.Declarations.{has_type, is_assigned, is_declared, is_declared_before, is_declaring, is_in_pattern, is_named, most_tokens}
use Rattle.timefd_lint_scan.specs.Layouts.{AreRepeated, declares, declares_at, fingerprint, may_declare}
use Rattle.timefd_lint_scan.specs.Scopes.{stays_open}
use Rattle.timefd_lint_scan.specs.Uses.{is_only}
use Rattle.timefd_lint_scan.specs.Words.{is_closing, is_opening, position_at, text_at, text_before, text_of, tokens_after}

-- the text before the token at an index, where another one precedes all tokens
abbrev pub preceding : Text → Text → List PlacedToken → ℕ → Text
preceding source before ps zero = before
preceding source before ps (suc i) = text_at source ps i

-- None of these tokens before a position declares the name.
abbrev pub AreApart : Text → Declaring → Text → ℕ → Text → List PlacedToken → Type 0
AreApart source declaring name position before ps = (i : ℕ) → i < length ps
    → declares source declaring (preceding source before ps i) (tokens_after ps i) ≡ true → text_at source ps i ≡ name
    → position ≤ position_at ps i

apart_after : (source name before : Text) (declaring : Declaring) (position : ℕ) (p : PlacedToken) (ps : List PlacedToken)
    → AreApart source declaring name position before (p ∷ ps)
    → AreApart source declaring name position (text_of source p) ps
apart_after source name before declaring position p ps apart zero below is same =
    apart 1 (omega (arith, below)) is same
apart_after source name before declaring position p ps apart (suc i) below is same =
    apart (suc (suc i)) (omega (arith, below)) is same

unnamed : (source name before : Text) (position : ℕ) (ps : List PlacedToken)
    → AreApart source Surely name position before ps → is_named source name position before ps ≡ false
unnamed source name before position [] apart = refl
unnamed source name before position (p ∷ ps) apart = elim (cases_Bool (nat_le position p.start)) [
  | inl early ↦ rw early refl
  | inr late ↦
      let rest : is_named source name position (text_of source p) ps ≡ false =
      unnamed source name (text_of source p) position ps (apart_after source name before Surely position p ps apart) in
      elim (cases_Bool (bytes_eq (text_of source p) name && is_declaring before)) [
        | inl here ↦
            let both = and_parts (bytes_eq (text_of source p) name) (is_declaring before) here in
            let after : position ≤ p.start = apart 0 (omega arith) both.1 ((bytes_eq-Decides (text_of source p) name).0 both.0) in
            absurd (grind (arith, nat_tests, late, after))
        | inr other ↦ rw (late, other) rest
      ]
]

declared_may : (source : Text) (position : ℕ) (before : Text) (after : List PlacedToken)
    → is_declared source position before after ≡ true → may_declare source before after ≡ true
declared_may source position before after is = elim (cases_Bool (is_assigned source most_tokens after)) [
  | inl assigned ↦ or_right _ _ assigned
  | inr unassigned ↦ elim (cases_Bool (bytes_eq before (codes "let"))) [
    | inl lets ↦
        let declaring : is_declaring before ≡ true = rw lets refl in
        rw declaring refl
    | inr other ↦
        let test : (bytes_eq before (codes "let") || is_assigned source most_tokens after) ≡ false = or_from _ _ other unassigned in
        let rest : (is_declaring before || bytes_eq before (codes "|") || bytes_eq before (codes "ref")
        || has_type source after || is_in_pattern source most_tokens after) ≡ true =
        rw test at is in
        or_left _ _ rest
  ]
]

undeclared : (source name before : Text) (position : ℕ) (ps : List PlacedToken)
    → AreApart source Maybe name position before ps → is_declared_before source name position before ps ≡ false
undeclared source name before position [] apart = refl
undeclared source name before position (p ∷ ps) apart = elim (cases_Bool (nat_le position p.start)) [
  | inl early ↦ rw early refl
  | inr late ↦
      let rest : is_declared_before source name position (text_of source p) ps ≡ false =
      undeclared source name (text_of source p) position ps (apart_after source name before Maybe position p ps apart) in
      elim (cases_Bool (bytes_eq (text_of source p) name && is_declared source position before ps)) [
        | inl here ↦
            let both = and_parts (bytes_eq (text_of source p) name) (is_declared source position before ps) here in
            let after : position ≤ p.start =
            apart 0 (omega arith) (declared_may source position before ps both.1)
            ((bytes_eq-Decides (text_of source p) name).0 both.0) in
            absurd (grind (arith, nat_tests, late, after))
        | inr other ↦ rw (late, other) rest
      ]
]

-- The tokens after the one at an index.
after_at : (source : Text) (ps : List PlacedToken) (d i : ℕ) → text_at source (tokens_after ps d) i ≡ text_at source ps (suc (d + i))
after_at source [] zero i = refl
after_at source [] (suc d) i = refl
after_at source (p ∷ ps) zero i = rw (zero-add) refl
after_at source (p ∷ ps) (suc d) i = rw (suc-add) (after_at source ps d i)

nothing_after : (i : ℕ) → tokens_after [] i ≡ []
nothing_after zero = refl
nothing_after (suc i) = refl

after_after : (ps : List PlacedToken) (d i : ℕ) → tokens_after (tokens_after ps d) i ≡ tokens_after ps (suc (d + i))
after_after [] zero i = nothing_after i
after_after [] (suc d) i = nothing_after i
after_after (p ∷ ps) zero i = rw (zero-add) refl
after_after (p ∷ ps) (suc d) i = rw (suc-add) (after_after ps d i)

within_after : (ps : List PlacedToken) (d i : ℕ) → i < length (tokens_after ps d) → suc (d + i) < length ps
within_after [] zero i below = absurd (omega (arith, below))
within_after [] (suc d) i below = absurd (omega (arith, below))
within_after (p ∷ ps) zero i below = omega (arith, below)
within_after (p ∷ ps) (suc d) i below = omega (arith, within_after ps d i below)

before_next : (source : Text) (ps : List PlacedToken) (i : ℕ) → text_before source ps (suc i) 1 ≡ text_at source ps i
before_next source ps i =
    let one : nat_le 1 (suc i) ≡ true = grind (arith, nat_tests) in
    let less : suc i - 1 ≡ i = omega arith in
    rw (one, less) refl

preceding_all : (source : Text) (ps : List PlacedToken) (i : ℕ) → preceding source [] ps i ≡ text_before source ps i 1
preceding_all source ps zero = refl
preceding_all source ps (suc i) = sym (before_next source ps i)

preceding_after : (source : Text) (ps : List PlacedToken) (d i : ℕ)
    → preceding source (text_at source ps d) (tokens_after ps d) i ≡ text_before source ps (suc (d + i)) 1
preceding_after source ps d zero = sym (before_next source ps (d + 0) ∙ ap (text_at source ps) (omega arith))
preceding_after source ps d (suc i) =
    after_at source ps d i ∙ (ap (text_at source ps) (omega arith) ∙ sym (before_next source ps (d + suc i)))

-- No other token declares the name, unless it is repeated.
apart_before : (source : Text) (declaring : Declaring) (ps : List PlacedToken) (d : ℕ) (repeated : ℕ → Bool) → d < length ps
    → declares_at source declaring ps d ≡ true → repeated (fingerprint (text_at source ps d)) ≡ false
    → AreRepeated source declaring ps (length ps) repeated
    → AreApart source declaring (text_at source ps d) (position_at ps d) [] ps
apart_before source declaring ps d repeated within is once are = λ i below other same.
    let declared : declares_at source declaring ps i ≡ true =
    subst (λ t. declares source declaring t (tokens_after ps i) ≡ true) (preceding_all source ps i) other in
    let one : d ≡ i = are.once d i within below is declared (sym same) once in
    omega (arith, ap (position_at ps) one)

apart_later : (source : Text) (declaring : Declaring) (ps : List PlacedToken) (d position : ℕ) (repeated : ℕ → Bool) → d < length ps
    → declares_at source declaring ps d ≡ true → repeated (fingerprint (text_at source ps d)) ≡ false
    → AreRepeated source declaring ps (length ps) repeated
    → AreApart source declaring (text_at source ps d) position (text_at source ps d) (tokens_after ps d)
apart_later source declaring ps d position repeated within is once are = λ i below other same.
    let moved : declares source declaring (text_before source ps (suc (d + i)) 1) (tokens_after (tokens_after ps d) i) ≡ true =
    subst (λ t. declares source declaring t (tokens_after (tokens_after ps d) i) ≡ true) (preceding_after source ps d i) other in
    let declared : declares_at source declaring ps (suc (d + i)) ≡ true =
    subst (λ qs. declares source declaring (text_before source ps (suc (d + i)) 1) qs ≡ true) (after_after ps d i) moved in
    let one : d ≡ suc (d + i) =
    are.once d (suc (d + i)) within (within_after ps d i below) is declared (sym same ∙ after_at source ps d i) once in
    absurd (omega (arith, one))

pub one_item : (source : Text) (ps : List PlacedToken) (d number : ℕ) (repeated : ℕ → Bool) → d < length ps
    → declares_at source Surely ps d ≡ true → number ≡ fingerprint (text_at source ps d) → repeated number ≡ false
    → AreRepeated source Surely ps (length ps) repeated → is_only source ps d ≡ true
one_item source ps d number repeated within is numbered once are =
    let apart : repeated (fingerprint (text_at source ps d)) ≡ false = subst (λ k. repeated k ≡ false) numbered once in
    let before : is_named source (text_at source ps d) (position_at ps d) [] ps ≡ false =
    unnamed source (text_at source ps d) [] (position_at ps d) ps (apart_before source Surely ps d repeated within is apart are) in
    let after : is_named source (text_at source ps d) (length source) (text_at source ps d) (tokens_after ps d) ≡ false =
    unnamed source (text_at source ps d) (text_at source ps d) (length source) (tokens_after ps d)
    (apart_later source Surely ps d (length source) repeated within is apart are) in
    rw (before, after) refl

pub one_variable : (source : Text) (ps : List PlacedToken) (d number : ℕ) (repeated : ℕ → Bool) → d < length ps
    → declares_at source Maybe ps d ≡ true → number ≡ fingerprint (text_at source ps d) → repeated number ≡ false
    → AreRepeated source Maybe ps (length ps) repeated → (position : ℕ)
    → is_declared_before source (text_at source ps d) position (text_at source ps d) (tokens_after ps d) ≡ false
one_variable source ps d number repeated within is numbered once are position =
    undeclared source (text_at source ps d) (text_at source ps d) position (tokens_after ps d)
    (apart_later source Maybe ps d position repeated within is (subst (λ k. repeated k ≡ false) numbered once) are)

pub rest_after : (ps : List PlacedToken) (d : ℕ) → drop (d + 1) ps ≡ tokens_after ps d
rest_after [] zero = refl
rest_after [] (suc d) = rw (suc-add) refl
rest_after (p ∷ ps) zero = refl
rest_after (p ∷ ps) (suc d) = rw (suc-add) (rest_after ps d)

-- A block is still open after a token that is no bracket.
pub open_after : (source : Text) (position : ℕ) (ps : List PlacedToken) (index : ℕ) → is_opening (text_at source ps index) ≡ false
    → is_closing (text_at source ps index) ≡ false → position_at ps index < position
    → stays_open source position 0 (drop index ps) ≡ true → stays_open source position 0 (drop (index + 1) ps) ≡ true
open_after source position [] zero none closes before opened = refl
open_after source position [] (suc index) none closes before opened = rw (suc-add) refl
open_after source position (p ∷ ps) zero none closes before opened =
    let late : nat_le position p.start ≡ false = grind (arith, nat_tests, before) in
    rw (late, none, closes) at opened
open_after source position (p ∷ ps) (suc index) none closes before opened =
    rw (suc-add) (open_after source position ps index none closes before opened)
