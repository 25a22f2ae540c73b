use Rattle.std.proofs.Common.{subst, ◌∙◌}
use Rattle.std.specs.Prelude.{IsUtf8}
use Rattle.timefd_parse.specs.Tree.{Text}
use Rattle.timefd_lint_lsp.proofs.EditorLemmas.FixLemmas.{no_body, other_body}
use Rattle.timefd_lint_lsp.proofs.editor.all_fixes.push_parts.Goals as goal

pub returns-in_ok-push_edits-in-Ok : goal.returns-in_ok-push_edits-in-Ok
returns-in_ok-push_edits-in-Ok c =
    other_body c.args.spot.text.now c.args.spot.description.now c.args.rewritten.now c.in-Some.body c.in-Ok.text.now
    c.args.edits.now.items c.push_edits-in-Ok.new.edits.items c.in-Some.is
    (c.in-Ok.ensures.cases.0 ∙ c.deref.ensures.value) c.in_ok-push_edits-in-Ok.ensures

pub returns-in-Err : goal.returns-in-Err
returns-in-Err c =
    no_body c.args.spot.text.now c.args.spot.description.now c.args.rewritten.now c.in-Some.body
    c.args.edits.now.items c.in-Some.is
    (subst (λ (t : Text). ¬ IsUtf8 t) c.deref.ensures.value c.in-Err.ensures.cases.0)
