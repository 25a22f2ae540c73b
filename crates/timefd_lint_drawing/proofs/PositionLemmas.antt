-- What follows the last newline.
use Rattle.std.proofs.Common.{ℕ, suc, ◌≡◌, ◌≢◌, ◌<◌, ◌==◌, [], ◌∷◌, ◌++◌, length, take, drop, get_or, true, false, refl, sym, ap, subst, ◌∙◌, inl, inr, arith, eqb-true}
use Rattle.std.proofs.lemmas.Bool.{cases_Bool}
use Rattle.std.proofs.lemmas.List.{take-append-drop}
use Rattle.std.proofs.lemmas.Str.Pattern.{NoCharPasses-char, drop_at_char}
use Rattle.std.specs.List.{list_any}
use Rattle.std.specs.Str.{NoCharPasses}
use Rattle.std.specs.Str.Pattern.{RFindsChar, SplitsAroundMatch}
use Rattle.timefd_lang_component.specs.Tree.{Text}
use Rattle.timefd_lint_drawing.specs.declared.position.Position.{Position}
use Rattle.timefd_lint_drawing.specs.Positions.{is_newline, last_line}

none_of : (text : Text) → ((i : ℕ) → i < length text → get_or text i 0 ≢ 10)
    → list_any is_newline text ≡ false
none_of [] none = refl
none_of (b ∷ text) none = elim (cases_Bool (b == 10)) [
  | inl is ↦ absurd (none 0 (omega arith) (eqb-true b 10 is))
  | inr other ↦ rw other (none_of text (λ i below. none (suc i) (omega arith)))
]

none_in : (text : Text) → NoCharPasses is_newline text → list_any is_newline text ≡ false
none_in text none =
    none_of text (λ i below. NoCharPasses-char 10 text i none (omega arith) below)

alone : (text : Text) → list_any is_newline text ≡ false → last_line text ≡ text
alone [] none = refl
alone (b ∷ text) none = rw none refl

stands : (front line : Text) → list_any is_newline (front ++ 10 ∷ line) ≡ true
stands [] line = refl
stands (b ∷ front) line = elim (cases_Bool (is_newline b)) [
  | inl is ↦ rw is refl
  | inr other ↦ rw other (stands front line)
]

after : (front line : Text) → list_any is_newline line ≡ false
    → last_line (front ++ 10 ∷ line) ≡ line
after [] line none = alone line none
after (b ∷ front) line none = rw (stands (b ∷ front) line) (after front line none)

pub after_last : (text front line : Text) → SplitsAroundMatch (RFindsChar 10) text front line
    → line ≡ last_line text
after_last text front line k =
    let back : line ≡ drop k.1 text = k.4 in
    let at : drop k.0 text ≡ 10 ∷ line = drop_at_char 10 text k.0 k.1 k.2.1 (omega arith)
    ∙ ap (λ t. 10 ∷ t) (sym back) in
    let whole : text ≡ take k.0 text ++ 10 ∷ line =
    sym (take-append-drop k.0 text) ∙ ap (λ t. take k.0 text ++ t) at in
    let none : NoCharPasses is_newline line = subst (NoCharPasses is_newline) (sym back) k.2.0 in
    sym (ap last_line whole ∙ after (take k.0 text) line (none_in line none))

pub without_newline : (text : Text) → NoCharPasses is_newline text → text ≡ last_line text
without_newline text none = sym (alone text (none_in text none))

-- A position is its line and its column.
abbrev pub at_both : ℕ → ℕ → Position
at_both line column = record { line = line; column = column }

pub position_of_both : (line column number count : ℕ) → line ≡ number → column ≡ count
    → at_both line column ≡ at_both number count
position_of_both line column number count l c = rw l (rw c refl)
