use Rattle.std.proofs.Common.{rules}
use Rattle.timefd_lint_lsp.proofs.EditorLemmas.HoverLemmas.{not_text, passed_over}
use Rattle.timefd_lint_lsp.proofs.editor.hovering.hover_on.Goals as goal

pub returns-then-is_passed_over : goal.returns-then-is_passed_over
returns-then-is_passed_over c =
    passed_over c.args.text.now c.args.description.now c.args.index c.as_slice-bytes.result.now c.is_passed_over.result
    c.as_slice-bytes.ensures.value c.is_passed_over.ensures (search rules)

pub returns-in-Err : goal.returns-in-Err
returns-in-Err c =
    not_text c.args.text.now c.args.description.now c.args.index c.as_slice-bytes.result.now c.is_passed_over.result
    c.as_slice-bytes.ensures.value c.is_passed_over.ensures (search rules) c.in-Err.ensures.cases.0
