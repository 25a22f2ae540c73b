use Rattle.std.proofs.Common.{Bool, ap, ◌∙◌}
use Rattle.timefd_language.specs.Bytes.{same}
use Rattle.timefd_language.proofs.Words.{same_lowered}
use Rattle.timefd_lint_lsp.proofs.editor.given.are_same.Goals as goal

pub returns : goal.returns
returns c =
    same_lowered c.eq_ignore_ascii_case.result c.args.word.now c.args.text.now c.eq_ignore_ascii_case.ensures.test
    ∙ ap (λ (s : Bool). same s c.args.word.now c.args.text.now) c.if-is_strict.ensures
