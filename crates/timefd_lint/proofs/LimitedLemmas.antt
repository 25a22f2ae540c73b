-- Notes on formats whose text of version 3 writes the same for some moments alone.
use Rattle.std.proofs.Common.{ℕ, ◌≡◌, ◌∙◌, ◌+◌, ◌<◌, ◌∷◌, ◌++◌, [], Bool, true, false, List, Option, Some, inl, inr, refl, sym, ap, subst, arith, length, length-append}
use Rattle.std.specs.Prelude.{IfSome, IsUtf8}
use Rattle.std.specs.Io.BufRead.{take_through, DropsThrough}
use denote.Ref.{Bor}
use Rattle.timefd_parse.specs.Tree.{Text}
use Rattle.timefd_lang_dialect.specs.declared.dialect.Dialect.{Dialect}
use Rattle.timefd_lang_dialect.specs.declared.error.RefusedPart.{RefusedPart}
use Rattle.timefd_lang_dialect.specs.declared.reading.Converted.{Converted}
use Rattle.timefd_lang_dialect.specs.Answers.{IsConverted}
use Rattle.timefd_lang_dialect.specs.Reading.{RefusedAt}
use Rattle.timefd_lint_drawing.specs.Shown.{safe}
use Rattle.timefd_lint_rewrite.specs.Lines.{AreLinesUpTo, is_passed_over, without_newline}
use Rattle.timefd_lint_rewrite.proofs.LineLemmas.{all_lines, next_line, no_line, up_to_more}
use Rattle.timefd_lint.specs.Limited.{AddsNote, AddsTextNote, AreNoted, AreNotes, IsNextNoted, note}

pub passed_over : (comment : Option (Bor Text)) (dialect : Dialect) (file : Text) (number : ℕ) (line text before : Text)
    → text ≡ without_newline line → is_passed_over comment text ≡ true
    → AddsNote comment dialect file number line before before
passed_over comment dialect file number line text before same is =
    inl (subst (λ t. is_passed_over comment t ≡ true) same is, refl)

pub no_text : (comment : Option (Bor Text)) (dialect : Dialect) (file : Text) (number : ℕ) (line text before : Text)
    → text ≡ without_newline line → ¬ IsUtf8 text → AddsNote comment dialect file number line before before
no_text comment dialect file number line text before same none =
    inr (inl (subst (λ t. ¬ IsUtf8 t) same none, refl))

pub of_text : (comment : Option (Bor Text)) (dialect : Dialect) (file : Text) (number : ℕ)
    (line text format before after : Text) → text ≡ without_newline line → is_passed_over comment text ≡ false
    → format ≡ text → AddsTextNote dialect file number format before after
    → AddsNote comment dialect file number line before after
of_text comment dialect file number line text format before after same kept is added =
    inr (inr (
      subst (λ t. is_passed_over comment t ≡ false) same kept,
      subst (λ t. AddsTextNote dialect file number t before after) (is ∙ same) added,
    ))

pub of_pieces : (dialect : Dialect) (file : Text) (number : ℕ) (text before after : Text) (answer : Converted)
    → IsConverted dialect text answer → after ≡ before ++ note file number answer.limits
    → AddsTextNote dialect file number text before after
of_pieces dialect file number text before after answer converted is =
    inl (converted.0, converted.1, is ∙ ap (λ l. before ++ note file number l) converted.3)

pub of_refusal : (dialect : Dialect) (file : Text) (number : ℕ) (text before : Text) (refusal : RefusedPart)
    → RefusedAt dialect text refusal.reason refusal.index → AddsTextNote dialect file number text before before
of_refusal dialect file number text before refusal is =
    inr ((refusal.reason, refusal.index, is), refl)

-- The lines so far, and what is left of the reader.
pub record NotedUpTo (comment : Option (Bor Text)) (dialect : Dialect) (file bytes : Text) (rest : Option Text)
    (count : ℕ) (notes : Text) : Type 0 where
  pub lines : List Text
  pub front : AreLinesUpTo (Some bytes) lines rest
  pub noted : AreNoted comment dialect file 1 lines [] notes
  pub counted : count ≡ length lines

pub none_yet : (comment : Option (Bor Text)) (dialect : Dialect) (file bytes notes : Text) → notes ≡ []
    → NotedUpTo comment dialect file bytes (Some bytes) 0 notes
none_yet comment dialect file bytes notes none =
    record { lines = []; front = no_line (Some bytes); noted = none; counted = refl }

noted_more : (comment : Option (Bor Text)) (dialect : Dialect) (file : Text) (number : ℕ) (lines : List Text)
    (line before middle after : Text) → AreNoted comment dialect file number lines before middle
    → AddsNote comment dialect file (number + length lines) line middle after
    → AreNoted comment dialect file number (lines ++ line ∷ []) before after
noted_more comment dialect file number [] line before middle after so_far more = (
  after,
  subst (λ b. AddsNote comment dialect file number line b after) so_far
      (subst (λ n. AddsNote comment dialect file n line middle after) (omega arith) more),
  refl,
)
noted_more comment dialect file number (first ∷ lines) line before middle after so_far more = (
  so_far.0,
  so_far.1,
  noted_more comment dialect file (number + 1) lines line so_far.0 middle after so_far.2
      (subst (λ n. AddsNote comment dialect file n line middle after) (omega arith) more),
)

pub one_more : (comment : Option (Bor Text)) (dialect : Dialect) (file bytes : Text) (rest next : Option Text)
    (count : ℕ) (before after : Text) (more : Bool) → more ≡ true
    → NotedUpTo comment dialect file bytes rest count before
    → IsNextNoted comment dialect file (count + 1) rest next before after more
    → NotedUpTo comment dialect file bytes next (count + 1) after
one_more comment dialect file bytes rest next count before after more is so_far found =
    let line = subst (IsNextNoted comment dialect file (count + 1) rest next before after) is found in
    record {
      lines = so_far.lines ++ line.0 ∷ [];
      front = up_to_more (Some bytes) rest next line.0 so_far.lines line.1 so_far.front;
      noted = noted_more comment dialect file 1 so_far.lines line.0 [] before after so_far.noted
          (subst (λ n. AddsNote comment dialect file n line.0 before after)
          (omega (arith, so_far.counted)) line.2);
      counted = omega (arith, so_far.counted, length-append so_far.lines (line.0 ∷ []));
    }

pub at_end : (comment : Option (Bor Text)) (dialect : Dialect) (name file bytes : Text) (rest next : Option Text)
    (count : ℕ) (before after : Text) (more : Bool) → file ≡ safe name → more ≡ false
    → NotedUpTo comment dialect file bytes rest count before
    → IsNextNoted comment dialect file (count + 1) rest next before after more
    → AreNotes comment dialect name bytes after
at_end comment dialect name file bytes rest next count before after more same is so_far found =
    let last = subst (IsNextNoted comment dialect file (count + 1) rest next before after) is found in (
      so_far.lines,
      all_lines (Some bytes) rest so_far.lines so_far.front last.0,
      subst (λ a. AreNoted comment dialect (safe name) 1 so_far.lines [] a) (sym last.1)
          (subst (λ f. AreNoted comment dialect f 1 so_far.lines [] before) same so_far.noted),
    )

-- The next line of a reader.
pub next_noted : (comment : Option (Bor Text)) (dialect : Dialect) (file : Text) (number : ℕ) (bytes rest : Option Text)
    (old line before after : Text) → IfSome bytes (λ xs. line ≡ old ++ take_through 10 xs) → old ≡ []
    → DropsThrough bytes rest 10 → 0 < length line → AddsNote comment dialect file number line before after
    → IsNextNoted comment dialect file number bytes rest before after true
next_noted comment dialect file number bytes rest old line before after is none left some added =
    (line, next_line bytes rest old line is none left some, added)
