use Rattle.timefd_lint_lsp.proofs.EditorLemmas.EditLemmas.{pushed}
use Rattle.timefd_lint_lsp.specs.declared.editor.action.Edit.{Edit}
use Rattle.timefd_lint_lsp.proofs.editor.action.push_edit.Goals as goal

pub returns : goal.returns
returns c =
    let e : Edit = record { range = c.range_from-range.result; text = c.args.text } in
    pushed c.args.spot.text.now c.args.start c.args.end e c.args.edits.now.items c.push.new.self.items
    c.range_from-range.ensures c.in_ok-push.ensures.items
