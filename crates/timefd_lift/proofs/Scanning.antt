-- The steps of the search for what has to be escaped.
use Rattle.std.proofs.Common.{ℕ, ◌≡◌, ◌+◌, ◌<◌, ◌==◌, ◌||◌, ◌&&◌, inl, inr, not, cond, Bool, true, false, [], ◌∷◌, ◌++◌, length, get_or, take, drop, refl, sym, ◌∙◌, ap, eqb-true, append_assoc, add-one, drop-cons, arith}
use Rattle.std.proofs.lemmas.Bool.{cases_Bool}
use Rattle.std.proofs.lemmas.Bool.Decides.{nat_tests}
use Rattle.std.proofs.lemmas.List.{take_more}
use Rattle.timefd_lang_component.specs.Tree.{Text}
use Rattle.timefd_language.specs.Bytes.{left, right, backslash}
use Rattle.timefd_lift.specs.Bytewise.{outside, inside, is_escaped}

-- what is written for the text, in a component or outside
abbrev pub scan : Bool → Text → Text
scan true text = inside text
scan false text = outside text

pub scan-end : (s : Bool) → scan s [] ≡ []
scan-end true = refl
scan-end false = refl

in_component : (t : Bool) (rest : Text) → cond t (outside rest) (inside rest) ≡ scan (not t) rest
in_component true rest = refl
in_component false rest = refl

plain_last : (b : ℕ) → ((b == right) || (b == backslash)) ≡ false → ((b == right) ≡ false)
    × ((b == backslash) ≡ false)
plain_last b e = grind (arith, nat_tests)

plain_more : (b c : ℕ) → ((b == right) || (b == backslash) || ((b == left) && (c == left))) ≡ false
    → ((b == right) ≡ false) × ((b == backslash) ≡ false)
plain_more b c e = grind (arith, nat_tests)

undoubled : (b c : ℕ) → ((b == right) || (b == backslash) || ((b == left) && (c == left))) ≡ false
    → (b == left) ≡ true → (c == left) ≡ false
undoubled b c e l = grind (arith, nat_tests)

-- outside of components, a byte that isn't written with an escape is kept
outside_step : (b : ℕ) (rest : Text) → is_escaped (b ∷ rest) ≡ false
    → outside (b ∷ rest) ≡ b ∷ scan (b == left) rest
outside_step b [] e =
    let plain = plain_last b e in
    elim (cases_Bool (b == left)) [
      | inl begins ↦ rw (eqb-true b left begins) refl
      | inr other ↦ rw (other, plain.0, plain.1) refl
    ]
outside_step b (c ∷ rest) e =
    let plain = plain_more b c e in
    elim (cases_Bool (b == left)) [
      | inl begins ↦ rw (eqb-true b left begins, undoubled b c e begins) refl
      | inr other ↦ rw (other, plain.0, plain.1) refl
    ]

scan-step : (s : Bool) (b : ℕ) (rest : Text) → (not s && is_escaped (b ∷ rest)) ≡ false
    → scan s (b ∷ rest) ≡ b ∷ scan (cond s (not (b == right)) (b == left)) rest
scan-step true b rest e = ap (λ x. b ∷ x) (in_component (b == right) rest)
scan-step false b rest e = outside_step b rest e

-- one more byte is kept
pub kept-step : (bytes : Text) (n b : ℕ) (s t : Bool) → n < length bytes → b ≡ get_or bytes n 0
    → t ≡ cond s (not (b == right)) (b == left)
    → (not s && is_escaped (drop n bytes)) ≡ false
    → outside bytes ≡ take n bytes ++ scan s (drop n bytes)
    → outside bytes ≡ take (n + 1) bytes ++ scan t (drop (n + 1) bytes)
kept-step bytes n b s t below at next no_escape so_far =
    let parts : drop n bytes ≡ b ∷ drop (n + 1) bytes =
    rw (at, add-one) (drop-cons bytes n 0 below) in
    let one : scan s (drop n bytes) ≡ b ∷ scan t (drop (n + 1) bytes) =
    ap (scan s) parts ∙ rw next (scan-step s b (drop (n + 1) bytes)
    (ap (λ x. not s && is_escaped x) (sym parts) ∙ no_escape)) in
    so_far ∙ ap (λ x. take n bytes ++ x) one ∙
    sym (append_assoc (take n bytes) (b ∷ []) (scan t (drop (n + 1) bytes)))
    ∙ ap (λ x. x ++ scan t (drop (n + 1) bytes))
    (sym (take_more bytes n 0 below ∙ ap (λ x. take n bytes ++ x ∷ []) (sym at)))

-- the first byte that is written with an escape
pub kept-stopped : (bytes : Text) (n : ℕ) (s : Bool) → (not s && is_escaped (drop n bytes)) ≡ true
    → outside bytes ≡ take n bytes ++ scan s (drop n bytes)
    → outside bytes ≡ take n bytes ++ outside (drop n bytes)
kept-stopped bytes n true stop so_far = absurd cc
kept-stopped bytes n false stop so_far = so_far
