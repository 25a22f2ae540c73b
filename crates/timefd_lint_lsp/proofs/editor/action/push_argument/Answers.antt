use Rattle.std.proofs.Common.{◌++◌, refl, ap, ◌∙◌}
use Rattle.std.specs.Prelude.{codes, string_bytes}
use Rattle.timefd_parse.specs.Tree.{Text}
use Rattle.timefd_lint_lsp.proofs.EditorLemmas.EditLemmas.{edited}
use Rattle.timefd_lint_lsp.specs.Editor.Edits.{digit_text}
use Rattle.timefd_lint_lsp.proofs.editor.action.push_argument.Goals as goal

pub returns : goal.returns
returns c =
    edited c.args.spot.text.now c.args.spot.description.now.piece.start c.args.spot.description.now.piece.start
    c.args.spot.description.now.piece.start c.args.spot.description.now.piece.start
    (string_bytes c.in_ok-text.text) (codes "version = " ++ (digit_text c.args.digit ++ codes ", "))
    c.args.edits.now.items c.push_edit.new.edits.items c.push_edit.result refl refl
    (c.in_ok-text.ensures.ok ∙ ap (λ (t : Text). codes "version = " ++ (t ++ codes ", ")) c.digit_text-digit.ensures)
    c.push_edit.ensures
