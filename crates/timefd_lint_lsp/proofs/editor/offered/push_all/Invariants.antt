use Rattle.std.proofs.Common.{◌≡◌, ◌++◌, drop}
use Rattle.std.specs.List.{filter}
use Rattle.timefd_lint_diagnosis.specs.Words.{texts}
use Rattle.timefd_lint_lsp.specs.Editor.Offered.{around, is_offered}
use Rattle.timefd_lint_lsp.proofs.editor.offered.push_all.Given as goal

-- those of the remaining words that are offered come after
abbrev pub invariant-loop-word : goal.invariant-loop-word
invariant-loop-word l =
    texts l.words.items ++ filter (is_offered (around l.begun)) (texts (drop l.word-index l.all))
    ≡ texts l.fn.words.items ++ filter (is_offered (around l.begun)) (texts l.all)
