-- A name without the blanks at its end.
use Rattle.std.proofs.Common.{ℕ, ◌≡◌, ◌≤◌, ◌-◌, ◌+◌, Bool, true, false, [], ◌∷◌, ◌++◌, length, get_or, take, refl, sym, ap, ◌∙◌, arith, take_all}
use Rattle.std.proofs.lemmas.List.{take_more}
use Rattle.timefd_lint_scan.specs.Bytes.{Text, is_blank}
use Rattle.timefd_lint_scan.specs.Keys.Names.{with_front, without_blanks}

blank_after : (front : Text) (b : ℕ) → is_blank b ≡ true
    → without_blanks (front ++ b ∷ []) ≡ without_blanks front
blank_after [] b blank = rw blank refl
blank_after (c ∷ front) b blank = ap (with_front c) (blank_after front b blank)

with_front_of : (c b : ℕ) (front : Text) → with_front c (front ++ b ∷ []) ≡ c ∷ front ++ b ∷ []
with_front_of c b [] = refl
with_front_of c b (d ∷ front) = refl

kept : (front : Text) (b : ℕ) → is_blank b ≡ false → without_blanks (front ++ b ∷ []) ≡ front ++ b ∷ []
kept [] b visible = rw visible refl
kept (c ∷ front) b visible = ap (with_front c) (kept front b visible) ∙ with_front_of c b front

last : (text : Text) → 1 ≤ length text
    → text ≡ take (length text - 1) text ++ get_or text (length text - 1) 0 ∷ []
last text le =
    sym (take_all (length text - 1 + 1) text (omega (arith, le)))
    ∙ take_more text (length text - 1) 0 (omega (arith, le))

pub at_last : (rest all : Text) (is : Bool) → without_blanks rest ≡ without_blanks all
    → is ≡ is_blank (get_or rest (length rest - 1) 0) → is ≡ false → 1 ≤ length rest
    → rest ≡ without_blanks all
at_last rest all is so_far test visible le =
    last rest le
    ∙ sym (kept (take (length rest - 1) rest) (get_or rest (length rest - 1) 0) (sym test ∙ visible))
    ∙ ap without_blanks (sym (last rest le)) ∙ so_far

pub one_less : (rest all : Text) (is : Bool) → without_blanks rest ≡ without_blanks all
    → is ≡ is_blank (get_or rest (length rest - 1) 0) → is ≡ true → 1 ≤ length rest
    → without_blanks (take (length rest - 1) rest) ≡ without_blanks all
one_less rest all is so_far test blank le =
    sym (blank_after (take (length rest - 1) rest) (get_or rest (length rest - 1) 0) (sym test ∙ blank))
    ∙ ap without_blanks (sym (last rest le)) ∙ so_far
