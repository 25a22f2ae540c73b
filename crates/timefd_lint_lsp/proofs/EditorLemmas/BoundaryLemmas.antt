-- The index of a position is between two characters.
use Rattle.std.proofs.Common.{ℕ, suc, ◌≡◌, ◌≤◌, ◌==◌, ◌+◌, ◌⊎◌, Bool, true, false, [], ◌∷◌, refl, inl, inr, arith, eqb-true, subst, sym}
use Rattle.std.proofs.lemmas.Bool.{le-leb, ltb-false, true≢false}
use Rattle.std.specs.Prelude.{nat_lt, not, ◌&&◌, ◌||◌, if◌then◌else◌}
use Rattle.std.specs.Str.{IsCharBoundary}
use Rattle.timefd_parse.specs.Tree.{Text}
use Rattle.timefd_lint_lsp.specs.Editor.Positions.{goes_on, index_of, is_line_end, is_second, passed, start, step, stops_at}
use Rattle.timefd_lint_lsp.specs.declared.editor.position.DocumentPosition.{DocumentPosition}
use Rattle.timefd_lint_lsp.specs.declared.editor.walk.CountingWalk.{CountingWalk}

either_true : (x y : Bool) → (x || y) ≡ true → (x ≡ true) ⊎ (y ≡ true)
either_true true y is = inl refl
either_true false y is = inr is

-- A walk stops at a line's end, or at a byte that begins a character.
stops_by : (here second ends goes far : Bool) → (here && (not second && (ends || (not goes && far)))) ≡ true
    → (ends ≡ true) ⊎ (goes ≡ false)
stops_by here second true goes far is = inl refl
stops_by here second false false far is = inr refl
stops_by true true false true far is = absurd (true≢false (sym is))
stops_by true false false true far is = absurd (true≢false (sym is))
stops_by false second false true far is = absurd (true≢false (sym is))

-- A line's end is ASCII.
end_begins : (b : ℕ) → is_line_end b ≡ true → 128 ≤ b → 192 ≤ b
end_begins b is large = elim (either_true (b == 10) (b == 13) is) [
  | inl newline ↦ absurd (omega (arith, eqb-true b 10 newline, large))
  | inr return ↦ absurd (omega (arith, eqb-true b 13 return, large))
]

character_begins : (b : ℕ) → goes_on b ≡ false → 128 ≤ b → 192 ≤ b
character_begins b is large =
    ltb-false b 192 (subst (λ (x : Bool). (x && nat_lt b 192) ≡ false) (le-leb 128 b large) is)

begins_here : (w : CountingWalk) (sought : DocumentPosition) (b : ℕ) → stops_at w sought b ≡ true → 128 ≤ b → 192 ≤ b
begins_here w sought b stops large =
    elim (stops_by (w.position.line == sought.line) (is_second w b) (is_line_end b) (goes_on b) _ stops) [
      | inl ends ↦ end_begins b ends large
      | inr begun ↦ character_begins b begun large
    ]

one_more : (b n : ℕ) (text : Text) → IsCharBoundary text n → IsCharBoundary (b ∷ text) (suc n)
one_more b n text at = (omega (arith, at.0), (λ below. at.1 (omega (arith, below))))

passed_to : (w : CountingWalk) (sought : DocumentPosition) (text : Text) → IsCharBoundary text (passed w sought text)
passed_to w sought [] = (omega arith, (λ below. absurd (omega (arith, below))))
passed_to w sought (b ∷ text) = by (stops_at w sought b) refl (passed_to (step w b) sought text)
  where
    by : (s : Bool) → stops_at w sought b ≡ s → IsCharBoundary text (passed (step w b) sought text)
        → IsCharBoundary (b ∷ text) (if s then 0 else 1 + passed (step w b) sought text)
    by true stops later = (omega arith, (λ below. begins_here w sought b stops))
    by false goes later =
        let next : suc (passed (step w b) sought text) ≡ 1 + passed (step w b) sought text = omega arith in
        subst (λ (n : ℕ). IsCharBoundary (b ∷ text) n) next
        (one_more b (passed (step w b) sought text) text later)

pub at_boundary : (text : Text) (sought : DocumentPosition) (n : ℕ) → n ≡ index_of text sought → IsCharBoundary text n
at_boundary text sought n is = subst (λ (k : ℕ). IsCharBoundary text k) (sym is) (passed_to start sought text)
