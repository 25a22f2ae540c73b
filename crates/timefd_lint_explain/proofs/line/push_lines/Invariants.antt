use Rattle.std.proofs.Common.{drop, string_bytes}
use Rattle.timefd_lint_explain.proofs.LineLemmas.{LeavesLines}
use Rattle.timefd_lint_explain.proofs.line.push_lines.Given as goal

-- With the lines of the nodes that are left, the lines are complete.
abbrev pub invariant-loop-node : goal.invariant-loop-node
invariant-loop-node l =
    LeavesLines l.text l.nodes (string_bytes l.initial.out) (drop l.node-index l.nodes) (string_bytes l.out)
