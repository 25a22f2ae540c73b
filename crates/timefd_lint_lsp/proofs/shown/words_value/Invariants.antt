use Rattle.timefd_lint_lsp.specs.Shown as spec
use Rattle.timefd_lint_lsp.proofs.ShownLemmas.{AreSoFar}
use Rattle.timefd_lint_lsp.proofs.shown.words_value.Given as goal

abbrev pub invariant-loop-word : goal.invariant-loop-word
invariant-loop-word l = AreSoFar (λ w. spec.word_data l.range l.slot w.now) l.words l.word-index l.values.items
