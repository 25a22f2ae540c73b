-- Tokens that leave the innermost bracket as it is.
use Rattle.std.proofs.Common.{ℕ, ◌≡◌, ◌∙◌, ◌-◌, ◌<◌, ◌++◌, ◌||◌, Bool, false, List, [], ◌∷◌, ap, arith, get_or, inl, inr, length, refl, suc, sym, take}
use Rattle.std.proofs.lemmas.Bool.{cases_Bool, or_parts}
use Rattle.std.proofs.lemmas.Option.{none-some, same_Some, slice_get-get_or}
use Rattle.std.specs.List.{slice_get}
use Rattle.std.specs.Prelude.{None, Option, Some, bytes_eq, codes}
use Rattle.timefd_lint_scan.specs.declared.calls.OpenBracket.{OpenBracket}
use Rattle.timefd_lint_scan.specs.declared.piece.PlacedToken.{PlacedToken}
use Rattle.timefd_lint_scan.specs.declared.uses.Use.{Use}
use Rattle.timefd_lint_scan.specs.Bytes.{Text}
use Rattle.timefd_lint_scan.specs.Flows.{entered, may_enter, names_value}
use Rattle.timefd_lint_scan.specs.Frames.{after_token, but_last, innermost, is_end, may_change, replaced, with_innermost}
use Rattle.timefd_lint_scan.specs.Words.{is_closing, text_at, text_before}

last_again : (frames : List OpenBracket) (frame : OpenBracket) → slice_get frames (length frames - 1) ≡ Some frame
    → take (length frames - 1) frames ++ frame ∷ [] ≡ frames
last_again [] frame is = absurd (none-some frame is)
last_again (first ∷ []) frame is = ap (λ f. f ∷ []) (sym (same_Some first frame is))
last_again (first ∷ second ∷ rest) frame is =
    let less : length (first ∷ second ∷ rest) - 1 ≡ suc (length (second ∷ rest) - 1) = omega arith in
    let later : slice_get (second ∷ rest) (length (second ∷ rest) - 1) ≡ Some frame = rw less at is in
    rw less (ap (λ l. first ∷ l) (last_again (second ∷ rest) frame later))

none_of_seven : (a b c d e f g : Bool) → (a || b || c || d || e || f || g) ≡ false
    → (a ≡ false) × (b ≡ false) × (c ≡ false) × (d ≡ false) × (e ≡ false) × (f ≡ false) × (g ≡ false)
none_of_seven a b c d e f g not =
    let six = or_parts (a || b || c || d || e || f) g not in
    let five = or_parts (a || b || c || d || e) f six.0 in
    let four = or_parts (a || b || c || d) e five.0 in
    let three = or_parts (a || b || c) d four.0 in
    let two = or_parts (a || b) c three.0 in
    let one = or_parts a b two.0 in
    (one.0, one.1, two.1, three.1, four.1, five.1, six.1)

not_entered : (source : Text) (ps : List PlacedToken) (us : List Use) (i : ℕ) (frame : OpenBracket) → may_enter source ps i ≡ false
    → entered source ps us i frame ≡ frame
not_entered source ps us i frame not =
    let none = none_of_seven (bytes_eq (text_at source ps i) (codes ";")) (bytes_eq (text_at source ps i) (codes ":"))
    (bytes_eq (text_at source ps i) (codes "=")) (bytes_eq (text_at source ps i) (codes "let"))
    (bytes_eq (text_at source ps i) (codes "in")) (bytes_eq (text_before source ps i 1) (codes "fn")) (names_value source ps i) not in
    rw (none.0, none.1, none.2, none.3, none.5, none.6, none.4) refl

not_changed : (source : Text) (ps : List PlacedToken) (us : List Use) (i : ℕ) (frame : OpenBracket) → may_change source ps i ≡ false
    → after_token source ps us i frame ≡ frame
not_changed source ps us i frame not =
    let entering = or_parts (bytes_eq (text_at source ps i) (codes ",") || is_end source ps i) (may_enter source ps i) not in
    let ended = or_parts (bytes_eq (text_at source ps i) (codes ",")) (is_end source ps i) entering.0 in
    elim (cases_Bool (is_closing (text_at source ps i))) [
      | inl closes ↦ rw (ended.0, closes, ended.1) refl
      | inr other ↦ rw (ended.0, other) (not_entered source ps us i frame entering.1)
    ]

unchanged_by : (source : Text) (ps : List PlacedToken) (us : List Use) (i : ℕ) (frames : List OpenBracket) (last : Option OpenBracket)
    → slice_get frames (length frames - 1) ≡ last → may_change source ps i ≡ false
    → with_innermost source ps us i (but_last frames) last ≡ frames
unchanged_by source ps us i [] None is not = refl
unchanged_by source ps us i (first ∷ rest) None is not =
    let there : length rest < length (first ∷ rest) = omega arith in
    let at : length (first ∷ rest) - 1 ≡ length rest = omega arith in
    absurd (none-some (get_or (first ∷ rest) (length rest) first)
    (sym is ∙ (ap (slice_get (first ∷ rest)) at ∙ slice_get-get_or (first ∷ rest) (length rest) first there)))
unchanged_by source ps us i frames (Some frame) is not =
    ap (λ f. but_last frames ++ f ∷ []) (not_changed source ps us i frame not) ∙ last_again frames frame is

-- A token that doesn't change the innermost bracket leaves all of them as they are.
pub unchanged : (source : Text) (ps : List PlacedToken) (us : List Use) (i : ℕ) (frames : List OpenBracket)
    → may_change source ps i ≡ false → frames ≡ replaced source ps us i frames
unchanged source ps us i frames not = sym (unchanged_by source ps us i frames (innermost frames) refl not)
