use Rattle.std.proofs.Common.{drop}
use Rattle.timefd_lint_lsp.proofs.EditorLemmas.EachLemmas.{IsReported}
use Rattle.timefd_lint_lsp.specs.Editor.Others.{IsTrap}
use Rattle.timefd_lint_lsp.proofs.editor.other.push_traps.Given as goal

-- The remaining traps decide.
abbrev pub invariant-loop-trap : goal.invariant-loop-trap
invariant-loop-trap l =
    IsReported (IsTrap l.fn.spot.text.now l.fn.spot.description.now) l.all (drop l.trap-index l.all)
    l.fn.found.items l.found.items
