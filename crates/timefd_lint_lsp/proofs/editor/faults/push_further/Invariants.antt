use Rattle.std.proofs.Common.{drop, true}
use Rattle.timefd_lint_lsp.proofs.EditorLemmas.EachLemmas.{IsReported}
use Rattle.timefd_lint_lsp.specs.Editor.Findings.{IsFault}
use Rattle.timefd_lint_lsp.proofs.editor.faults.push_further.Given as goal

-- The remaining faults decide.
abbrev pub invariant-loop-diagnostic : goal.invariant-loop-diagnostic
invariant-loop-diagnostic l =
    IsReported (IsFault l.fn.spot.text.now l.fn.spot.description.now true) l.further
    (drop l.diagnostic-index l.further) l.fn.found.items l.found.items
