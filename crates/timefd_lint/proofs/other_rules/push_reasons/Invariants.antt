use Rattle.std.proofs.Common.{drop}
use Rattle.timefd_lint_lsp.proofs.EditorLemmas.EachLemmas.{IsReported}
use Rattle.timefd_lint.specs.Rules.{IsReasonRule}
use Rattle.timefd_lint.proofs.other_rules.push_reasons.Given as goal

-- The remaining items decide.
abbrev pub invariant-loop-reason : goal.invariant-loop-reason
invariant-loop-reason l =
    IsReported IsReasonRule l.reasons (drop l.reason-index l.reasons) l.fn.out.items l.out.items
