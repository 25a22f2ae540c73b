use Rattle.std.proofs.Common.{drop}
use Rattle.timefd_lint_lsp.proofs.EditorLemmas.EachLemmas.{IsReported}
use Rattle.timefd_lint.specs.Rules.{IsWarningRule}
use Rattle.timefd_lint.proofs.rules.push_warnings.Given as goal

-- The remaining items decide.
abbrev pub invariant-loop-warning : goal.invariant-loop-warning
invariant-loop-warning l =
    IsReported IsWarningRule l.warnings (drop l.warning-index l.warnings) l.fn.out.items l.out.items
