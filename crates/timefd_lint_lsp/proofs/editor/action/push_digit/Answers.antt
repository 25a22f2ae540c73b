use Rattle.std.proofs.Common.{◌+◌, refl, rules, arith, ◌∙◌}
use Rattle.std.specs.Prelude.{string_bytes}
use Rattle.timefd_lint_lsp.proofs.EditorLemmas.EditLemmas.{edited}
use Rattle.timefd_lint_lsp.specs.Editor.Edits.{digit_text}
use Rattle.timefd_lint_lsp.specs.Editor.Positions.{capped}
use Rattle.timefd_lint_lsp.proofs.editor.action.push_digit.Goals as goal

pub returns : goal.returns
returns c =
    edited c.args.spot.text.now c.args.at c.args.at c.saturating_add.result (capped (c.args.at + 1))
    (string_bytes c.in_ok-text.text) (digit_text c.args.digit) c.args.edits.now.items
    c.push_edit.new.edits.items c.push_edit.result refl (first_of (search rules, omega (arith, c.saturating_add.ensures)))
    (c.in_ok-text.ensures.ok ∙ c.digit_text.ensures) c.push_edit.ensures
