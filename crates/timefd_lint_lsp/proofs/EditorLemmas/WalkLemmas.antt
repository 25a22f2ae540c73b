-- A walk through a text.
use Rattle.std.proofs.Common.{ℕ, zero, suc, ◌≡◌, ◌<◌, ◌≤◌, ◌-◌, true, false, [], ◌∷◌, ◌++◌, take, drop, get_or, refl, sym, arith}
use native.Mathlib.Numerals.{unary_clauses}
use Rattle.timefd_parse.specs.Tree.{Text}
use Rattle.timefd_lint_lsp.specs.Editor.Positions.{char_start, goes_on, step, walked}
use Rattle.timefd_lint_lsp.specs.declared.editor.walk.CountingWalk.{CountingWalk}

pub walked-append : (w : CountingWalk) (front back : Text)
    → walked w (front ++ back) ≡ walked (walked w front) back
walked-append w [] back = refl
walked-append w (b ∷ front) back = walked-append (step w b) front back

none : (w : CountingWalk) (n : ℕ) → walked w (take {A = ℕ} n []) ≡ w
none w zero = refl
none w (suc n) = refl

-- A walk up to a later index is the walk up to an earlier one, and then through the bytes between them.
pub walked_on : (text : Text) (w : CountingWalk) (i j : ℕ) → i ≤ j
    → walked w (take j text) ≡ walked (walked w (take i text)) (take (j - i) (drop i text))
walked_on text w zero j below = simp unary_clauses refl
walked_on [] w (suc i) (suc j) below = sym (none w (suc j - suc i))
walked_on (b ∷ text) w (suc i) (suc j) below =
    simp unary_clauses (walked_on text (step w b) i j (omega arith))
walked_on text w (suc i) zero below = absurd (omega arith)

pub char_start_at : (text : Text) (n : ℕ) → goes_on (get_or text n 0) ≡ false → char_start text n ≡ n
char_start_at text zero begun = refl
char_start_at text (suc n) begun = rw begun refl

pub char_start_back : (text : Text) (n : ℕ) → 0 < n → goes_on (get_or text n 0) ≡ true
    → char_start text (n - 1) ≡ char_start text n
char_start_back text zero some begun = absurd (omega arith)
char_start_back text (suc n) some begun = simp unary_clauses (rw begun refl)
