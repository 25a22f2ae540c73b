use Rattle.std.proofs.Common.{drop}
use Rattle.timefd_lint_lsp.proofs.EditorLemmas.EachLemmas.{IsReported}
use Rattle.timefd_lint_lsp.specs.Editor.Actions.{AreActionsIn}
use Rattle.timefd_lint_lsp.specs.Editor.Positions.{IsCounted}
use Rattle.timefd_lint_lsp.proofs.editor.all_actions.push_all.Given as goal

-- The remaining descriptions decide.
abbrev pub invariant-loop-description : goal.invariant-loop-description
invariant-loop-description l = record {
  counted : IsCounted l.text l.counter;
  reported : IsReported (AreActionsIn l.wanted l.text l.bytes.0 l.bytes.1) l.descriptions
      (drop l.description-index l.descriptions) l.fn.actions.items l.actions.items;
}
