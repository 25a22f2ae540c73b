-- What is shown for the fault of a description.
use Rattle.std.specs.Prelude.{ℕ, ◌≡◌, ◌==◌, Bool, false, ◌&&◌, ◌||◌, nat_le, nat_lt, string_bytes}
use Rattle.timefd_parse.specs.Tree.{Text}
use Rattle.timefd_lint_diagnosis.specs.declared.diagnostic.Diagnostic.{Diagnostic}
use Rattle.timefd_lint_lsp.specs.declared.editor.fault_hover.Hover.{Hover}
use Rattle.timefd_lint_lsp.specs.Editor.Findings.{fault_words}
use Rattle.timefd_lint_lsp.specs.Editor.Positions.{range_of}
use Rattle.timefd_lint_scan.specs.declared.description.SourceDescription.{SourceDescription}
use Rattle.timefd_lint_scan.specs.Found.{index_in_source}

-- where a fault begins and ends in the document
abbrev pub fault_start : SourceDescription → Diagnostic → ℕ
fault_start d g = index_in_source d g.span.start

abbrev pub fault_end : SourceDescription → Diagnostic → ℕ
fault_end d g = index_in_source d g.span.end

-- whether an index is at one of the bytes at fault, or where such a byte is missing
abbrev pub is_at_fault : SourceDescription → Diagnostic → ℕ → Bool
is_at_fault d g index =
    (index == fault_start d g) || (nat_le (fault_start d g) index && nat_lt index (fault_end d g))

-- It is at the bytes at fault, with the words of the finding.
pub record IsFaultHover (document : Text) (d : SourceDescription) (g : Diagnostic) (h : Hover) : Type 0 where
  pub range : h.range ≡ range_of document (fault_start d g) (fault_end d g)
  pub text : string_bytes h.text ≡ fault_words false g
