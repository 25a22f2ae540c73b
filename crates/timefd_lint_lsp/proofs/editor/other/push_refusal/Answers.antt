use Rattle.std.specs.Prelude.{string_bytes}
use Rattle.timefd_lint_lsp.proofs.EditorLemmas.OtherLemmas.{placed}
use Rattle.timefd_lint_lsp.specs.declared.editor.finding.Severity.TheVariants.{Error}
use Rattle.timefd_lint_lsp.proofs.editor.other.push_refusal.Goals as goal

pub returns : goal.returns
returns c =
    placed c.args.spot.text.now c.index_in_source-index.result _ c.index_in_source-index.result _ Error
    c.name-code.result.now _ (string_bytes c.in_ok-message.message) _ c.args.found.now.items c.push.new.found.items
    c.push.result c.index_in_source-index.ensures.position c.index_in_source-index.ensures.position c.name-code.ensures
    c.in_ok-message.ensures c.push.ensures
