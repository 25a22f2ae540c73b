use Rattle.std.proofs.Common.{◌≡◌}
use Rattle.timefd_lint_lsp.specs.Editor.Positions.{char_start}
use Rattle.timefd_lint_lsp.proofs.editor.position.char_start.Given as goal

abbrev pub invariant-back : goal.invariant-back
invariant-back l = char_start l.text l.start ≡ char_start l.text l.index

abbrev pub decreases-back : goal.decreases-back
decreases-back l = l.start
