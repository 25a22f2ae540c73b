use Rattle.std.proofs.Common.{◌≡◌, drop}
use Rattle.std.specs.Prelude.{option_map}
use Rattle.timefd_lint_lsp.specs.Editor.Hovers.{innermost, innermost_from}
use Rattle.timefd_lint_lsp.proofs.editor.hovering.innermost.Given as goal

-- The remaining nodes decide.
abbrev pub invariant-loop-node : goal.invariant-loop-node
invariant-loop-node l =
    innermost_from (option_map (λ node. node.now) l.inner) (drop l.node-index l.nodes) l.at ≡ innermost l.nodes l.at
