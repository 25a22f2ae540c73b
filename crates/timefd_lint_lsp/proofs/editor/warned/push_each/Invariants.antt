use Rattle.std.proofs.Common.{drop}
use Rattle.timefd_lint_lsp.proofs.EditorLemmas.EachLemmas.{IsReported}
use Rattle.timefd_lint_lsp.specs.Editor.Finding.{IsWarned}
use Rattle.timefd_lint_lsp.proofs.editor.warned.push_each.Given as goal

-- The remaining warnings decide.
abbrev pub invariant-loop-warning : goal.invariant-loop-warning
invariant-loop-warning l =
    IsReported (IsWarned l.fn.spot.text.now l.fn.spot.description.now l.warned) l.warnings
    (drop l.warning-index l.warnings) l.fn.found.items l.found.items
