-- Lines that are counted on from an earlier position.
use Rattle.std.proofs.Common.{ℕ, ◌≡◌, ◌≤◌, ◌+◌, ◌-◌, ◌^◌, min, length, take, drop, ap, subst, ◌∙◌, inl, inr, arith}
use Rattle.std.proofs.Math.Seq.{take-add, take-length}
use Rattle.std.proofs.lemmas.Bool.{cases_Bool}
use Rattle.std.proofs.lemmas.List.{length-take, take_min}
use Rattle.std.proofs.lemmas.List.Sums.{sum_by-append}
use Rattle.std.specs.Prelude.{cond, slice_index}
use Rattle.timefd_lang_component.specs.Tree.{Text}
use Rattle.timefd_lint_drawing.specs.Positions.{front, goes_on, is_newline, line_after, newlines}

newlines_on : (text : Text) (i k : ℕ)
    → newlines (take (i + k) text) ≡ newlines (take i text) + newlines (take k (drop i text))
newlines_on text i k =
    ap newlines (take-add i k text) ∙
    sum_by-append (λ b. cond (is_newline b) 1 0) (take i text) (take k (drop i text))

-- The newlines that follow are added to what is already counted.
pub counted_on : (first : ℕ) (text : Text) (i j line : ℕ) → i ≤ j
    → line ≡ line_after first (take i text)
    → min (line + newlines (take (j - i) (drop i text))) (2 ^ 64 - 1) ≡ line_after first (take j text)
counted_on first text i j line below is =
    let whole : i + (j - i) ≡ j = omega arith in
    let all : newlines (take j text) ≡ newlines (take i text) + newlines (take (j - i) (drop i text)) =
    subst (λ n. newlines (take n text) ≡ newlines (take i text) + newlines (take (j - i) (drop i text)))
    whole (newlines_on text i (j - i)) in
    omega (arith, is, all)

-- The text before an index is as many bytes from the start of the text.
pub in_front : (text : Text) (at : ℕ) → take (length (front at text)) text ≡ front at text
in_front text at = elim (cases_Bool (goes_on (slice_index text at))) [
  | inl is ↦ rw is (take-length text)
  | inr isnt ↦ rw isnt (ap (λ n. take n text) (length-take at text) ∙ take_min at text)
]
