use Rattle.std.proofs.Common.{drop}
use Rattle.timefd_lint_lsp.proofs.EditorLemmas.EachLemmas.{IsReported}
use Rattle.timefd_lint_lsp.specs.Editor.Findings.{AreLeftOn}
use Rattle.timefd_lint_lsp.specs.Editor.Positions.{IsCounted}
use Rattle.timefd_lint_lsp.proofs.editor.all_findings.push_all.Given as goal

-- The remaining descriptions decide.
abbrev pub invariant-loop-description : goal.invariant-loop-description
invariant-loop-description l = record {
  counted : IsCounted l.source.text.now l.counter;
  reported : IsReported (AreLeftOn l.levels l.source) l.descriptions (drop l.description-index l.descriptions)
      l.fn.found.items l.found.items;
}
