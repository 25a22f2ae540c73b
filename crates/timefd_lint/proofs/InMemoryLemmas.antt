-- Bytes in memory are read to their end.
use Rattle.std.proofs.Common.{ℕ, ◌≡◌, ◌<◌, ◌≤◌, ◌-◌, ◌^◌, ◌==◌, Bool, true, false, if◌then◌else◌, List, [], ◌∷◌, Option, Some, length, arith, refl, subst}
use Rattle.std.proofs.lemmas.Bool.{false≢true}
use Rattle.std.specs.Io.BufRead.{drop_through}
use Rattle.std.specs.Prelude.{IsFalse, IsTrue, ◌⊎◌}
use mathlib.Core.Logic.{inl, inr}
use Rattle.timefd_parse.specs.Tree.{Text}
use Rattle.timefd_lint_rewrite.specs.Lines.{AreLines, AreLinesOf}
use Rattle.timefd_lint_sources.specs.declared.reported.Finder.{Finder}
use Rattle.timefd_lint_sources.specs.declared.reported.Reporting.{Reporting}
use Rattle.timefd_lint.specs.declared.options.RunOptions.{RunOptions}
use Rattle.timefd_lint.specs.declared.tally.LintTally.{LintTally}
use Rattle.timefd_lint.specs.Reported.{IsRunOver, lines_of}
use Rattle.timefd_lint.specs.Sources.{IsRunOfSource}

shorter_if : (ends : Bool) (rest later : Text) → length later ≤ length rest
    → length (if ends then rest else later) ≤ length rest
shorter_if true rest later less = omega (arith)
shorter_if false rest later less = less

-- What follows the first line is shorter.
shorter : (byte : ℕ) (bytes : Text) → length (drop_through 10 (byte ∷ bytes)) ≤ length bytes
shorter byte [] = shorter_if (byte == 10) [] [] (omega (arith))
shorter byte (next ∷ bytes) =
    shorter_if (byte == 10) (next ∷ bytes) (drop_through 10 (next ∷ bytes)) (omega (arith, shorter next bytes))

-- There are no more lines than bytes.
few_lines : (bytes : Text) (lines : List Text) (rest : Text) → AreLines bytes lines rest
    → length lines ≤ length bytes
few_lines bytes [] rest are = omega (arith)
few_lines [] (line ∷ lines) rest are = absurd (are.0 are.1)
few_lines (byte ∷ bytes) (line ∷ lines) rest are =
    omega (arith, shorter byte bytes, few_lines (drop_through 10 (byte ∷ bytes)) lines rest are.2)

-- They have fewer lines than are counted.
never_counted_out : (old : Text) (lines : List Text) (failed : Bool) → length old < 2 ^ 63
    → AreLinesOf (Some old) lines failed → (IsTrue failed → IsTrue false ⊎ (2 ^ 64 - 2 ≤ length lines)) → IsFalse failed
never_counted_out old lines false small are cause = refl
never_counted_out old lines true small (rest, are) cause = absurd (no_cause (cause refl))
  where
    no_cause : IsTrue false ⊎ (2 ^ 64 - 2 ≤ length lines) → ⊥
    no_cause (inl failed) = false≢true failed
    no_cause (inr many) = omega (arith, small, many, few_lines old lines rest are)

of_bytes : (options : RunOptions) (name : Text) (bytes rest : Option Text) (old : Text) (has_failed : Bool)
    (before after : Option Text) (tally : LintTally) → bytes ≡ Some old → has_failed ≡ false
    → IsRunOver options.language options.comment options.reporting name bytes rest has_failed before after tally
    → IsRunOver options.language options.comment options.reporting name (Some old) rest false before after tally
of_bytes options name bytes rest old has_failed before after tally is works run =
    subst (λ f. IsRunOver options.language options.comment options.reporting name (Some old) rest f before after tally)
    works
    (subst (λ b. IsRunOver options.language options.comment options.reporting name b rest has_failed before after tally)
    is run)

-- A reader of some bytes is one of those in memory.
pub lines_of_bytes : (options : RunOptions) (name : Text) (bytes rest : Option Text) (old : Text)
    (has_failed : Bool) (before after : Option Text) (tally : LintTally) → bytes ≡ Some old → has_failed ≡ false
    → IsRunOver options.language options.comment options.reporting name bytes rest has_failed before after tally
    → (left : Option Text)
    × IsRunOver options.language options.comment options.reporting name (Some old) left false before after tally
lines_of_bytes options name bytes rest old has_failed before after tally is works run =
    (rest, of_bytes options name bytes rest old has_failed before after tally is works run)

pub unfailing : (options : RunOptions) (name : Text) (bytes rest : Option Text) (old : Text) (has_failed : Bool)
    (before after : Option Text) (tally : LintTally) → bytes ≡ Some old → has_failed ≡ false → length old < 2 ^ 63
    → IsRunOver options.language options.comment options.reporting name bytes rest has_failed before after tally
    → IsFalse tally.failed
unfailing options name bytes rest old has_failed before after tally is works small run =
    let all = of_bytes options name bytes rest old has_failed before after tally is works run in
    never_counted_out old (lines_of all.run.reported) tally.failed small all.lines all.cause

pub source_of_bytes : (finder : Finder) (reporting : Reporting) (name : Text) (bytes rest : Option Text)
    (old : Text) (has_failed : Bool) (before after : Option Text) (tally : LintTally) → bytes ≡ Some old
    → has_failed ≡ false
    → IsRunOfSource finder reporting name bytes rest has_failed before after tally
    → (left : Option Text) × IsRunOfSource finder reporting name (Some old) left false before after tally
source_of_bytes finder reporting name bytes rest old has_failed before after tally is works run =
    let known = subst (λ b. IsRunOfSource finder reporting name b rest has_failed before after tally) is run in
    (rest, subst (λ f. IsRunOfSource finder reporting name (Some old) rest f before after tally) works known)
