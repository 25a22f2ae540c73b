-- What the linter reports about one description.
use Rattle.std.proofs.Common.{ℕ, ◌≡◌, true, false, Option, None, List, [], ◌++◌, Result, Ok, Err, inl, inr, refl, sym, subst, ap, ◌∙◌}
use Rattle.std.specs.Prelude.{IfOk, IsUtf8}
use Rattle.std.specs.declared.alloc.Global.{Global}
use Rattle.std.specs.declared.vec.Vec.{Vec}
use Rattle.timefd_parse.specs.Tree.{Text}
use Rattle.timefd_language.specs.declared.description_version.Language.{Language}
use Rattle.timefd_lint_drawing.specs.Positions.{line_number}
use Rattle.timefd_lint_explain.specs.Lines.{IsExplainedIf}
use Rattle.timefd_lint_scan.specs.declared.description.SourceDescription.{SourceDescription}
use Rattle.timefd_lang_warnings.specs.declared.levels.Levels.{Levels}
use Rattle.timefd_lint_warnings.specs.Messages.{messages_at}
use Rattle.timefd_lint_sources.specs.declared.reported.ItemEnd.{ItemEnd}
use Rattle.timefd_lint_sources.specs.declared.reported.ItemEnd.TheVariants.{Allowed}
use Rattle.timefd_lint_sources.specs.declared.reported.SourceText.{SourceText}
use Rattle.timefd_lint_sources.specs.declared.reported.Reporting.{Reporting}
use Rattle.timefd_lint_sources.specs.declared.reported.Reported.{Reported}
use Rattle.timefd_lint_sources.specs.declared.judgement.TextPlace.{TextPlace}
use Rattle.timefd_lint_sources.specs.declared.judgement.TextJudgement.{TextJudgement}
use Rattle.timefd_lint_sources.specs.Allowed.{IsLeftOf, count_in, is_covered, left_of}
use Rattle.timefd_lint_sources.specs.Judged.{text_of}
use Rattle.timefd_lint_sources.specs.Reported.{IsNoTextReported, IsReported, IsReportedIf}
use Rattle.timefd_lint_sources.specs.Judgements.{IsJudgement, levels_of, place_of}
use Rattle.timefd_lint_sources.specs.Whole.{IsDrawn, IsTreeAndWarnings, IsTreeWithWarnings, column_of, literal_of, origin_of}

pub no_text : {E : Type 0} (reporting : Reporting) (s : SourceText) (d : SourceDescription) (done : Result Reported E)
    → ¬ IsUtf8 (text_of d) → IfOk done (λ t. IsNoTextReported reporting s d t.end t.message.items)
    → IfOk done (λ t. IsReported reporting s d t.end t.message.items)
no_text reporting s d (Ok t) not noted = inr (not, noted)
no_text reporting s d (Err e) not noted = tt

-- The text is the description's.
pub with_judgement : {E : Type 0} (reporting : Reporting) (s : SourceText) (d : SourceDescription) (place : TextPlace)
    (text : Text) (judgement : TextJudgement) (done : Result Reported E) → IsUtf8 text → text ≡ text_of d
    → place ≡ place_of s.finder d → IsJudgement place reporting.levels text judgement
    → IfOk done (λ t. IsReportedIf (is_covered reporting s d) reporting s d judgement t.end t.message.items)
    → IfOk done (λ t. IsReported reporting s d t.end t.message.items)
with_judgement reporting s d place text judgement (Ok t) utf8 same there judged reported = inl (
  subst IsUtf8 same utf8,
  (
    judgement,
    subst (λ p. IsJudgement p reporting.levels (text_of d) judgement) there
        (subst (λ x. IsJudgement place reporting.levels x judgement) same judged),
    reported,
  ),
)
with_judgement reporting s d place text judgement (Err e) utf8 same there judged reported = tt

-- What comments leave is reported.
pub left_reported : (reporting : Reporting) (s : SourceText) (d : SourceDescription) (judgement left : TextJudgement)
    (end : ItemEnd) (message : Text) → IsLeftOf s d judgement left → end ≡ Allowed (left_of (count_in judgement) left)
    → IsDrawn reporting s d left message → IsReportedIf true reporting s d judgement end message
left_reported reporting s d judgement left end message is ended drawn = (left, is, ended, drawn)

-- The literal is at this position.
pub at_literal : {E : Type 0} (reporting : Reporting) (s : SourceText) (d : SourceDescription) (language : Language)
    (found : Levels) (text : Text) (line col : ℕ) (done : Result (Vec ℕ Global) E) → text ≡ text_of d
    → line ≡ line_number 1 s.text.now d.piece.start → col ≡ column_of reporting.style s d
    → IfOk done (λ m. IsTreeWithWarnings reporting (record { file = s.file; line = line }) s.text.now (literal_of d) text
    col language found m.items)
    → IfOk done (λ m. IsTreeAndWarnings language reporting s d found m.items)
at_literal reporting s d language found text line col done same at_line at_column is =
    subst (λ t. IfOk done (λ m. IsTreeWithWarnings reporting (origin_of s d) s.text.now (literal_of d) t
    (column_of reporting.style s d) language found m.items)) same
    (subst (λ n. IfOk done (λ m. IsTreeWithWarnings reporting (record { file = s.file; line = n }) s.text.now (literal_of d)
    text (column_of reporting.style s d) language found m.items)) at_line
    (subst (λ k. IfOk done (λ m. IsTreeWithWarnings reporting (record { file = s.file; line = line }) s.text.now
    (literal_of d) text k language found m.items)) at_column is))

-- If neither trees nor warnings are asked for, nothing is reported.
pub nothing_reported : (language : Language) (reporting : Reporting) (s : SourceText) (d : SourceDescription)
    (found : Option Levels) (message : Text) → reporting.explains ≡ false → found ≡ None → message ≡ []
    → IsTreeAndWarnings language reporting s d (levels_of found) message
nothing_reported language reporting s d found message quiet none is = (
  [],
  subst (λ b. IsExplainedIf b language s.file.now (origin_of s d).line (text_of d) []) (sym quiet) refl,
  is ∙ ap (λ f. messages_at reporting.style (origin_of s d) s.text.now (literal_of d) (text_of d)
      (column_of reporting.style s d) (levels_of f)) (sym none),
)
