use Rattle.std.proofs.Common.{drop}
use Rattle.timefd_lint_lsp.proofs.EditorLemmas.EachLemmas.{IsReported}
use Rattle.timefd_lint_lsp.specs.Editor.Positions.{IsCounted}
use Rattle.timefd_lint_lsp.specs.Editor.Remarked.{IsRemarked}
use Rattle.timefd_lint_lsp.proofs.editor.remarked.push_remarks.Given as goal

-- The remaining remarks decide.
abbrev pub invariant-loop-remark : goal.invariant-loop-remark
invariant-loop-remark l = record {
  counted : IsCounted l.text l.counter;
  reported : IsReported (IsRemarked l.text) l.remarks (drop l.remark-index l.remarks) l.fn.found.items l.found.items;
}
