-- What is wrong with a format of another language or library.
use Rattle.std.specs.Prelude.{List}
use Rattle.timefd_parse.specs.Tree.{Text}
use Rattle.timefd_lang_dialect.specs.declared.error.RefusedPart.{RefusedPart}
use Rattle.timefd_lang_dialect.specs.declared.trapping.Found.{Found}
use Rattle.timefd_lang_dialect.specs.Reasons as reasons
use Rattle.timefd_lang_dialect.specs.TrapWords as traps
use Rattle.timefd_lint_drawing.specs.Findings.{with_help}
use Rattle.timefd_lint_lsp.specs.declared.editor.finding.Finding.{Finding}
use Rattle.timefd_lint_lsp.specs.declared.editor.finding.Severity.TheVariants.{Error, Warning}
use Rattle.timefd_lint_lsp.specs.Editor.Finding.{IsOne}
use Rattle.timefd_lint_scan.specs.declared.description.SourceDescription.{SourceDescription}
use Rattle.timefd_lint_scan.specs.Found.{index_in_source}

-- A part that is refused is an error where the part begins.
abbrev pub IsRefusal : Text → SourceDescription → RefusedPart → List Finding → Type 0
IsRefusal text d r found =
    IsOne text (index_in_source d r.index) (index_in_source d r.index) Error (reasons.name r.reason)
    (with_help (reasons.sentence r.reason) (reasons.cure r.reason)) found

-- A trap is a warning at its directive.
abbrev pub IsTrap : Text → SourceDescription → Found → List Finding → Type 0
IsTrap text d f found =
    IsOne text (index_in_source d f.start) (index_in_source d f.end) Warning (traps.name f.trap)
    (with_help (traps.sentence f.trap) (traps.cure f.trap)) found
