use Rattle.std.proofs.Common.{refl}
use Rattle.timefd_lint_lsp.proofs.EditorLemmas.FixLemmas.{some_edits}
use Rattle.timefd_lint_lsp.specs.declared.editor.action.Action.{Action}
use Rattle.timefd_lint_lsp.specs.declared.editor.action.ActionKind.TheVariants.{FixAll}
use Rattle.timefd_lint_lsp.proofs.editor.all_fixes.push_as_one.Goals as goal

pub returns : goal.returns
returns c =
    let a : Action = record { title = c.in_ok-from_str.field-0; kind = FixAll; edits = c.args.edits } in
    some_edits c.args.edits c.is_empty.result a c.args.actions.now.items c.push.new.self.items c.is_empty.ensures
    c.if-is_empty.false c.in_ok-from_str.ensures.ok refl refl c.in_ok-push.ensures.items
