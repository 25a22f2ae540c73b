-- Lines and columns, one more byte at a time.
use Rattle.std.proofs.Common.{ℕ, ◌≡◌, ◌+◌, ◌<◌, ◌≤◌, ◌==◌, inl, inr, cond, Bool, true, false, [], ◌∷◌, ◌++◌, length, get_or, take, refl, sym, ap, ◌∙◌, eqb-true, arith}
use Rattle.std.proofs.lemmas.Bool.{cases_Bool}
use Rattle.std.proofs.lemmas.Bool.Decides.{nat_tests}
use Rattle.std.proofs.lemmas.List.{take_more}
use Rattle.std.specs.Fmt.{char_count, is_char_start}
use Rattle.timefd_parse.specs.Tree.{Text}
use Rattle.timefd_test_uses.specs.Positions.{newlines, begun_line}

newlines_push : (text : Text) (b : ℕ)
    → newlines (text ++ b ∷ []) ≡ newlines text + cond (b == 10) 1 0
newlines_push [] b = omega arith
newlines_push (a ∷ text) b = omega (arith, newlines_push text b)

chars_push : (text : Text) (b : ℕ) → char_count (text ++ b ∷ []) ≡ char_count text + cond
    (is_char_start b) 1 0
unfolding char_count
chars_push [] b = omega arith
chars_push (a ∷ text) b = omega (arith, chars_push text b)

some : (m n : ℕ) → m ≡ n + 1 → (m == 0) ≡ false
some m n e = grind (arith, nat_tests)

begun_push_newline : (text : Text) → begun_line (text ++ 10 ∷ []) ≡ []
begun_push_newline [] = refl
begun_push_newline (a ∷ text) =
    rw (some (newlines (a ∷ text ++ 10 ∷ [])) (newlines (a ∷ text)) (newlines_push (a ∷ text) 10))
    (begun_push_newline text)

begun_push : (text : Text) (b : ℕ) → (b == 10) ≡ false
    → begun_line (text ++ b ∷ []) ≡ begun_line text ++ b ∷ []
begun_push [] b other = rw other refl
begun_push (a ∷ text) b other =
    let same : newlines (a ∷ text ++ b ∷ []) ≡ newlines (a ∷ text) =
    newlines_push (a ∷ text) b ∙ rw other (omega arith) in
    rw same (elim (cases_Bool (newlines (a ∷ text) == 0)) [
      | inl none ↦ rw none refl
      | inr more ↦ rw more (begun_push text b other)
    ])

no_chars : char_count [] ≡ 0
unfolding char_count
no_chars = refl

begun_nothing : (text : Text) → char_count (begun_line (text ++ 10 ∷ [])) + 1 ≡ 1
begun_nothing text = ap (λ x. char_count x + 1) (begun_push_newline text) ∙ ap (λ x. x + 1) no_chars

begun_more : (text : Text) (b : ℕ) → (b == 10) ≡ false
    → char_count (begun_line (text ++ b ∷ [])) + 1 ≡ char_count (begun_line text) + 1 + cond
    (is_char_start b) 1 0
begun_more text b other = ap (λ x. char_count x + 1) (begun_push text b other) ∙
    omega (arith, chars_push (begun_line text) b)

-- the column after one more byte
column_push : (text : Text) (b : ℕ)
    → char_count (begun_line (text ++ b ∷ [])) + 1 ≡ cond (b == 10) 1
    (char_count (begun_line text) + 1 + cond (is_char_start b) 1 0)
column_push text b = elim (cases_Bool (b == 10)) [
  | inl newline ↦ rw (eqb-true b 10 newline) (begun_nothing text)
  | inr other ↦ rw other (begun_more text b other)
]

line_step : (text : Text) (at b : ℕ) → at < length text → b ≡ get_or text at 0
    → newlines (take (at + 1) text) ≡ newlines (take at text) + cond (b == 10) 1 0
line_step text at b below is =
    ap newlines (take_more text at 0 below) ∙ newlines_push (take at text) (get_or text at 0) ∙
    ap (λ x. newlines (take at text) + cond (x == 10) 1 0) (sym is)

column_step : (text : Text) (at b : ℕ) → at < length text → b ≡ get_or text at 0
    → char_count (begun_line (take (at + 1) text)) + 1 ≡ cond (b == 10) 1
    (char_count (begun_line (take at text)) + 1 + cond (is_char_start b) 1 0)
column_step text at b below is =
    ap (λ x. char_count (begun_line x) + 1) (take_more text at 0 below ∙
    ap (λ x. take at text ++ x ∷ []) (sym is)) ∙ column_push (take at text) b

-- the line and the column, one more byte on
pub line-next : (text : Text) (at b line next : ℕ) → at < length text → b ≡ get_or text at 0
    → line ≡ newlines (take at text) + 1
    → next ≡ line + cond (b == 10) 1 0 → next ≡ newlines (take (at + 1) text) + 1
line-next text at b line next below is so_far e = e ∙ ap (λ x. x + cond (b == 10) 1 0) so_far ∙
    omega (arith, line_step text at b below is)

pub column-next : (text : Text) (at b column next : ℕ) → at < length text → b ≡ get_or text at 0
    → column ≡ char_count (begun_line (take at text)) + 1
    → next ≡ cond (b == 10) 1 (column + cond (is_char_start b) 1 0)
    → next ≡ char_count (begun_line (take (at + 1) text)) + 1
column-next text at b column next below is so_far e =
    e ∙ ap (λ x. cond (b == 10) 1 (x + cond (is_char_start b) 1 0)) so_far ∙
    sym (column_step text at b below is)

pub first-column : 1 ≡ char_count [] + 1
first-column = ap (λ x. x + 1) (sym no_chars)

-- neither passes the number of bytes
pub line-fits : (t : Bool) (line next at : ℕ) → next ≡ line + cond t 1 0 → line ≤ at + 1
    → next ≤ at + 1 + 1
line-fits true line next at e fits = omega (arith, e, fits)
line-fits false line next at e fits = omega (arith, e, fits)

pub column-fits : (s t : Bool) (column next at : ℕ) → next ≡ cond s 1 (column + cond t 1 0)
    → column ≤ at + 1 → next ≤ at + 1 + 1
column-fits true t column next at e fits = omega (arith, e)
column-fits false true column next at e fits = omega (arith, e, fits)
column-fits false false column next at e fits = omega (arith, e, fits)
