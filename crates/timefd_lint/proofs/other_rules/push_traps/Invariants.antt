use Rattle.std.proofs.Common.{drop}
use Rattle.timefd_lint_lsp.proofs.EditorLemmas.EachLemmas.{IsReported}
use Rattle.timefd_lint.specs.Rules.{IsTrapRule}
use Rattle.timefd_lint.proofs.other_rules.push_traps.Given as goal

-- The remaining items decide.
abbrev pub invariant-loop-trap : goal.invariant-loop-trap
invariant-loop-trap l =
    IsReported IsTrapRule l.traps (drop l.trap-index l.traps) l.fn.out.items l.out.items
