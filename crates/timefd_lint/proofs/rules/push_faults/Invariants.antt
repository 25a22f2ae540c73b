use Rattle.std.proofs.Common.{drop}
use Rattle.timefd_lint_lsp.proofs.EditorLemmas.EachLemmas.{IsReported}
use Rattle.timefd_lint.specs.Rules.{IsFaultRule}
use Rattle.timefd_lint.proofs.rules.push_faults.Given as goal

-- The remaining items decide.
abbrev pub invariant-loop-code : goal.invariant-loop-code
invariant-loop-code l =
    IsReported IsFaultRule l.faults (drop l.code-index l.faults) l.fn.out.items l.out.items
