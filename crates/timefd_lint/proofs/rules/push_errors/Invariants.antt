use Rattle.std.proofs.Common.{drop}
use Rattle.timefd_lint_lsp.proofs.EditorLemmas.EachLemmas.{IsReported}
use Rattle.timefd_lint.specs.Rules.{IsErrorRule}
use Rattle.timefd_lint.proofs.rules.push_errors.Given as goal

-- The remaining items decide.
abbrev pub invariant-loop-code : goal.invariant-loop-code
invariant-loop-code l =
    IsReported IsErrorRule l.errors (drop l.code-index l.errors) l.fn.out.items l.out.items
