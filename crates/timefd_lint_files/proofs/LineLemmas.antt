-- The bytes of a line that are kept, from its front on.
use Rattle.std.proofs.Common.{◌≡◌, ℕ, ◌+◌, ◌<◌, ◌≤◌, Bool, true, false, length, get_or, drop, refl, sym, ap, ◌∙◌, add-one, arith, zero, suc}
use Rattle.std.specs.Prelude.{if◌then◌else◌, ◌==◌}
use Rattle.std.proofs.Math.Seq.{drop-cons}
use Rattle.std.proofs.lemmas.Bool.Decides.{nat_tests}
use Rattle.timefd_lint_files.specs.Matching.{Text}
use Rattle.timefd_lint_files.specs.Lines.{is_spare, kept_count, one_kept, quotes}

-- how many are kept in all, from the counts for the front and for the rest
abbrev pub with_more : ℕ → ℕ → ℕ → ℕ
with_more kept at more = if more == 0 then kept else at + more

-- The rest of the line decides.
pub record IsLeft (line : Text) (kept : ℕ) (is_quoted : Bool) (at : ℕ) : Type 0 where
  pub left : with_more kept at (kept_count is_quoted (drop at line)) ≡ kept_count false line
  pub within : kept ≤ at

on_spare : (kept at more : ℕ) → with_more kept at (one_kept true more) ≡ with_more kept (at + 1) more
on_spare kept at zero = refl
on_spare kept at (suc more) = grind (arith, nat_tests)

on_kept : (kept at more : ℕ) → with_more kept at (one_kept false more) ≡ with_more (at + 1) (at + 1) more
on_kept kept at zero = refl
on_kept kept at (suc more) = grind (arith, nat_tests)

cut : (line : Text) (at : ℕ) (is_quoted : Bool) → at < length line
    → kept_count is_quoted (drop at line)
    ≡ one_kept (is_spare is_quoted (get_or line at 0)) (kept_count (quotes is_quoted (get_or line at 0)) (drop (at + 1) line))
cut line at is_quoted lt = rw (add-one, drop-cons line at 0 lt) refl

-- at a space that may be dropped
pub one_spare : (line : Text) (kept at : ℕ) (is_quoted : Bool) → at < length line
    → IsLeft line kept is_quoted at → is_spare is_quoted (get_or line at 0) ≡ true
    → IsLeft line kept (quotes is_quoted (get_or line at 0)) (at + 1)
one_spare line kept at is_quoted lt is spare = record {
  left = sym (on_spare kept at (kept_count (quotes is_quoted (get_or line at 0)) (drop (at + 1) line))) ∙
      ap (λ b. with_more kept at (one_kept b (kept_count (quotes is_quoted (get_or line at 0)) (drop (at + 1) line)))) (sym spare) ∙
      ap (with_more kept at) (sym (cut line at is_quoted lt)) ∙ is.left;
  within = let w = is.within in omega arith;
}

-- at any other byte
pub one_more : (line : Text) (kept at : ℕ) (is_quoted : Bool) → at < length line
    → IsLeft line kept is_quoted at → is_spare is_quoted (get_or line at 0) ≡ false
    → IsLeft line (at + 1) (quotes is_quoted (get_or line at 0)) (at + 1)
one_more line kept at is_quoted lt is other = record {
  left = sym (on_kept kept at (kept_count (quotes is_quoted (get_or line at 0)) (drop (at + 1) line))) ∙
      ap (λ b. with_more kept at (one_kept b (kept_count (quotes is_quoted (get_or line at 0)) (drop (at + 1) line)))) (sym other) ∙
      ap (with_more kept at) (sym (cut line at is_quoted lt)) ∙ is.left;
  within = omega arith;
}
