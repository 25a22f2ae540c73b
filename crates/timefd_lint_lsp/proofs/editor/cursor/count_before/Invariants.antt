use Rattle.std.proofs.Common.{◌≡◌, ◌+◌, drop}
use Rattle.std.specs.Prelude.{nat_lt}
use Rattle.std.specs.List.{prefix_len}
use Rattle.timefd_lint_lsp.proofs.editor.cursor.count_before.Given as goal

-- The remaining positions decide.
abbrev pub invariant-loop-count : goal.invariant-loop-count
invariant-loop-count l =
    l.count + prefix_len (λ p. nat_lt p l.index) (drop l.count l.positions)
    ≡ prefix_len (λ p. nat_lt p l.index) l.positions
