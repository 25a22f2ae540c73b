-- Where the inside of a literal is.
use Rattle.std.proofs.Common.{ℕ, ◌≡◌, ◌≤◌, ◌<◌, ◌-◌, ◌+◌, Bool, true, false, cond, suc, nat_le, nat_lt, ◌&&◌, [], ◌∷◌, length, take, drop, Some, None, inl, inr}
use Rattle.std.proofs.Common.{refl, sym, ap, ◌∙◌, arith}
use Rattle.std.proofs.lemmas.Bool.{cases_Bool}
use Rattle.std.proofs.lemmas.Bool.Decides.{nat_tests}
use Rattle.std.proofs.lemmas.List.{drop-drop, drop-take, length-drop, length-take, take-take}
use Rattle.timefd_lint_scan.specs.declared.class.ByteSet.TheVariants.{Unquoted}
use Rattle.timefd_lint_scan.specs.declared.piece.PlacedToken.{PlacedToken}
use Rattle.timefd_lint_scan.specs.declared.token.LiteralKind.{LiteralKind}
use Rattle.timefd_lint_scan.specs.Bytes.{Text, class_test}
use Rattle.timefd_lint_scan.specs.After.{after_run}
use Rattle.timefd_lint_scan.specs.Literals.{EndsAt, body, body_end, cut, hash_count, inner}

both_true : (a b : Bool) → (a && b) ≡ true → (a ≡ true) × (b ≡ true)
both_true true b e = (refl, e)
both_true false b e = absurd cc

drop_one : (b : ℕ) (text : Text) (n : ℕ) → drop (n + 1) (b ∷ text) ≡ drop n text
drop_one b text n = let e : n + 1 ≡ suc n = omega arith in ap (λ (k : ℕ). drop k (b ∷ text)) e

-- What follows a run is an end of the text.
abbrev pub IsSuffix : Text → Text → Type 0
IsSuffix text rest = (n : ℕ) × (rest ≡ drop n text)

pub run_is_suffix : (test : ℕ → Bool) (text : Text) → IsSuffix text (after_run test text)
run_is_suffix test [] = (0, refl)
run_is_suffix test (b ∷ text) = elim (cases_Bool (test b)) [
  | inl pass ↦ let more : IsSuffix text (after_run test text) = run_is_suffix test text in
      (more.0 + 1, rw pass (more.1 ∙ sym (drop_one b text more.0)))
  | inr fail ↦ (0, rw fail refl)
]

abbrev pub CutTo : Text → PlacedToken → Text → Type 0
CutTo source p literal = (p.start ≤ p.end) × (p.end ≤ length source)
    × (literal ≡ take (p.end - p.start) (drop p.start source))

le_of : (a b : ℕ) → nat_le a b ≡ true → a ≤ b
le_of a b e = grind (arith, nat_tests)

lt_of : (a b : ℕ) → nat_lt a b ≡ true → a < b
lt_of a b e = grind (arith, nat_tests)

chosen : (b : Bool) (x y : Text) → cond b (Some x) None ≡ Some y → (b ≡ true) × (x ≡ y)
chosen true x y e = (refl, cc)
chosen false x y e = absurd cc

pub cut_to : (source : Text) (p : PlacedToken) (literal : Text) → cut source p ≡ Some literal → CutTo source p literal
cut_to source p literal e =
    let is = chosen (nat_le p.start p.end && nat_le p.end (length source)) (take (p.end - p.start) (drop p.start source)) literal e in
    let tests = both_true (nat_le p.start p.end) (nat_le p.end (length source)) is.0 in
    (le_of p.start p.end tests.0, le_of p.end (length source) tests.1, sym is.1)

abbrev InnerOf : LiteralKind → Text → Text → Type 0
InnerOf kind rest bytes = (b : ℕ) × (after : Text) × (rest ≡ b ∷ after) × (hash_count kind < length after)
    × (bytes ≡ take (length after - hash_count kind - 1) after)

inner_of : (kind : LiteralKind) (rest bytes : Text) → inner kind rest ≡ Some bytes → InnerOf kind rest bytes
inner_of kind [] bytes e = absurd cc
inner_of kind (b ∷ after) bytes e =
    let is = chosen (nat_lt (hash_count kind) (length after)) (take (length after - hash_count kind - 1) after) bytes e in
    (b, after, refl, lt_of (hash_count kind) (length after) is.0, sym is.1)

-- a front of what follows a front
front : (source : Text) (s n j k : ℕ) → k ≤ j
    → take k (drop (n + 1) (take (n + 1 + j) (drop s source))) ≡ take k (drop (s + (n + 1)) source)
front source s n j k le =
    ap (take k) (drop-take (n + 1) j (drop s source)) ∙ take-take k j (drop (n + 1) (drop s source)) le
    ∙ ap (take k) (drop-drop (n + 1) s source)

ends : (source : Text) (s e n hashes j : ℕ) (literal after bytes : Text) → e ≤ length source
    → e - s ≡ n + 1 + j → s ≤ e → literal ≡ take (e - s) (drop s source) → after ≡ drop (n + 1) literal
    → length after ≡ j → hashes < j → bytes ≡ take (j - hashes - 1) after
    → EndsAt source (e - hashes - 1) bytes
ends source s e n hashes j literal after bytes within long order is_cut is_after_percent len fewer is =
    let whole : bytes ≡ take (j - hashes - 1) (drop (s + (n + 1)) source) =
    is ∙ ap (take (j - hashes - 1)) (is_after_percent ∙ ap (drop (n + 1)) (is_cut ∙ ap (λ (x : ℕ). take x (drop s source)) long))
    ∙ front source s n j (j - hashes - 1) (omega arith) in
    let size : length bytes ≡ j - hashes - 1 =
    omega (arith, ap length whole, length-take (j - hashes - 1) (drop (s + (n + 1)) source), length-drop (s + (n + 1)) source) in
    let start : e - hashes - 1 - length bytes ≡ s + (n + 1) = omega (arith, size) in
    record {
      within = omega arith;
      are = whole ∙ ap (λ (x : ℕ). take x (drop (s + (n + 1)) source)) (sym size)
          ∙ ap (λ (x : ℕ). take (length bytes) (drop x source)) (sym start);
    }

pub inside_stands : (source : Text) (p : PlacedToken) (kind : LiteralKind) (literal bytes : Text)
    → cut source p ≡ Some literal → body kind literal ≡ Some bytes
    → EndsAt source (body_end p kind) bytes
inside_stands source p kind literal bytes is_cut is_body =
    let found : CutTo source p literal = cut_to source p literal is_cut in
    let within : InnerOf kind (after_run (class_test Unquoted) literal) bytes =
    inner_of kind (after_run (class_test Unquoted) literal) bytes is_body in
    let suffix : IsSuffix literal (after_run (class_test Unquoted) literal) =
    run_is_suffix (class_test Unquoted) literal in
    let one : within.1 ≡ drop (suffix.0 + 1) literal =
    ap (drop 1) (sym within.2 ∙ suffix.1) ∙ drop-drop 1 suffix.0 literal in
    let size : length literal ≡ p.end - p.start =
    omega (arith, ap length found.2, length-take (p.end - p.start) (drop p.start source), length-drop p.start source) in
    let len : length within.1 ≡ p.end - p.start - (suffix.0 + 1) =
    omega (arith, ap length one, length-drop (suffix.0 + 1) literal, size) in
    ends source p.start p.end suffix.0 (hash_count kind) (length within.1) literal within.1 bytes found.1
    (omega (arith, len, within.3)) found.0 found.2 one refl within.3 within.4
