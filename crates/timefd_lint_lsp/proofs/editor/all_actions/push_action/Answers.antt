use Rattle.std.proofs.Common.{ℕ, List, ◌∙◌}
use Rattle.std.specs.Prelude.{option_map}
use denote.Ref.{Bor}
use Rattle.timefd_lint_lsp.proofs.EditorLemmas.ActionLemmas.{pushed}
use Rattle.timefd_lint_lsp.specs.declared.editor.action.Action.{Action}
use Rattle.timefd_lint_lsp.proofs.editor.all_actions.push_action.Goals as goal

pub returns : goal.returns
returns c =
    let a : Action = record {
      title = c.in_ok-from_str.field-0;
      kind = c.kind_of.result;
      edits = c.push_edits.new.edits;
    } in
    pushed c.args.change c.args.spot.text.now c.args.spot.description.now c.args.digit
    (option_map (λ (b : Bor (List ℕ)). b.now) c.args.body) a c.new-edits.result.items c.args.actions.now.items
    c.push.new.self.items c.new-edits.ensures.items (c.in_ok-from_str.ensures.ok ∙ c.title_of.ensures)
    c.kind_of.ensures c.in_ok-push_edits.ensures c.in_ok-push.ensures.items
