use Rattle.std.proofs.Common.{ℕ, ◌-◌, List, Option, ap, ◌∙◌}
use Rattle.std.specs.Prelude.{option_map, string_bytes}
use denote.Ref.{Bor}
use Rattle.timefd_lint_lsp.proofs.EditorLemmas.EditLemmas.{edited, other_body}
use Rattle.timefd_lint_lsp.specs.Editor.Edits.{inside_len}
use Rattle.timefd_lint_scan.specs.Literals.{body_end}
use Rattle.timefd_lint_lsp.proofs.editor.action.push_body.Goals as goal

pub returns : goal.returns
returns c =
    other_body c.args.spot.text.now c.args.spot.description.now
    (option_map (λ (b : Bor (List ℕ)). b.now) c.args.body) c.in-Some.body.now c.args.edits.now.items
    c.push_edit.new.edits.items c.push_edit.result
    (ap (λ (o : Option (Bor (List ℕ))). option_map (λ (b : Bor (List ℕ)). b.now) o) c.in-Some.is)
    (edited c.args.spot.text.now c.saturating_sub-start.result
    (body_end c.args.spot.description.now.piece c.args.spot.description.now.kind
    - inside_len c.args.spot.text.now c.args.spot.description.now)
    c.body_end-end.result (body_end c.args.spot.description.now.piece c.args.spot.description.now.kind)
    (string_bytes c.in_ok-text.text) c.in-Some.body.now c.args.edits.now.items c.push_edit.new.edits.items
    c.push_edit.result
    (c.saturating_sub-start.ensures ∙ ap (λ (n : ℕ). n - c.inside_len.result) c.body_end-end.ensures
    ∙ ap (λ (n : ℕ). body_end c.args.spot.description.now.piece c.args.spot.description.now.kind - n)
    c.inside_len.ensures)
    c.body_end-end.ensures c.in_ok-text.ensures.ok c.push_edit.ensures)
