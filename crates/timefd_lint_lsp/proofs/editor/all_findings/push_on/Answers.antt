use Rattle.std.proofs.Common.{subst}
use Rattle.std.specs.Prelude.{IsUtf8}
use Rattle.timefd_parse.specs.Tree.{Text}
use Rattle.timefd_lint_lsp.proofs.EditorLemmas.FindingLemmas.{no_text}
use Rattle.timefd_lint_lsp.proofs.editor.all_findings.push_on.Goals as goal

pub returns-in-Err : goal.returns-in-Err
returns-in-Err c =
    no_text c.args.levels c.args.finder c.args.spot.text.now c.args.spot.description.now c.args.found.now.items
    c.push_note.new.found.items c.push_note.result
    (subst (λ (t : Text). ¬ IsUtf8 t) c.as_slice.ensures.value c.in-Err.ensures.cases.0)
    c.push_note.ensures
