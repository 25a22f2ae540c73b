-- One thing that is wrong in a document, and what is reported about a description as a whole.
use Rattle.std.specs.Prelude.{ℕ, ◌≡◌, List, [], ◌∷◌, codes, string_bytes}
use Rattle.timefd_parse.specs.Tree.{Text}
use Rattle.timefd_lint_lsp.specs.declared.editor.finding.Finding.{Finding}
use Rattle.timefd_lint_lsp.specs.declared.editor.finding.Severity.{Severity}
use Rattle.timefd_lint_lsp.specs.declared.editor.finding.Severity.TheVariants.{Error, Warning}
use Rattle.timefd_lint_lsp.specs.Editor.Each.{AreOf}
use Rattle.timefd_lint_lsp.specs.Editor.Positions.{range_of}
use Rattle.timefd_lint_scan.specs.declared.description.SourceDescription.{SourceDescription}
use Rattle.timefd_lang_warnings.specs.declared.levels.Level.{Level}
use Rattle.timefd_lang_warnings.specs.declared.levels.Level.TheVariants.{Allowed, Warned, Denied}
use Rattle.timefd_lang_warnings.specs.declared.levels.Levels.{Levels}
use Rattle.timefd_lang_warnings.specs.declared.warning.Warning as warnings
use Rattle.timefd_lang_warnings.specs.Codes.{all, name_of, sentence_of}
use Rattle.timefd_lang_warnings.specs.Levels.{level_of}

-- It is at these bytes of the document, with this name and this sentence.
pub record IsFinding (text : Text) (from to : ℕ) (weight : Severity) (name sentence : Text) (f : Finding)
    : Type 0 where
  pub range : f.range ≡ range_of text from to
  pub severity : f.severity ≡ weight
  pub code : f.code.now ≡ name
  pub message : string_bytes f.message ≡ sentence

-- one finding, and no other
abbrev pub IsOne : Text → ℕ → ℕ → Severity → Text → Text → List Finding → Type 0
IsOne text from to severity code message found =
    (f : Finding) × IsFinding text from to severity code message f × (found ≡ f ∷ [])

-- What is reported about a description as a whole is at its literal.
abbrev pub IsAtLiteral : Text → SourceDescription → Severity → Text → Text → List Finding → Type 0
IsAtLiteral text d severity code message found =
    IsOne text d.piece.start d.piece.end severity code message found

abbrev pub IsReported : Text → SourceDescription → Severity → warnings.Warning → List Finding → Type 0
IsReported text d severity w found = IsAtLiteral text d severity (name_of w) (sentence_of w) found

-- A warning at its level: nothing if it is allowed, an error if it is denied.
abbrev pub IsWarnedAt : Text → SourceDescription → Level → warnings.Warning → List Finding → Type 0
IsWarnedAt text d Allowed w found = found ≡ []
IsWarnedAt text d Warned w found = IsReported text d Warning w found
IsWarnedAt text d Denied w found = IsReported text d Error w found

abbrev pub IsWarned : Text → SourceDescription → Levels → warnings.Warning → List Finding → Type 0
IsWarned text d warned w found = IsWarnedAt text d (level_of warned w) w found

-- each warning that isn't allowed, in the order of their codes
abbrev pub AreWarnings : Text → SourceDescription → Levels → List Finding → Type 0
AreWarnings text d warned found = AreOf (IsWarned text d warned) all found

-- the report that a description isn't UTF-8
abbrev pub IsNote : Text → SourceDescription → List Finding → Type 0
IsNote text d found =
    IsAtLiteral text d Error (codes "not-text") (codes "the bytes aren't UTF-8") found
