use Rattle.std.specs.Prelude.{string_bytes}
use Rattle.timefd_lint_lsp.proofs.EditorLemmas.FindingLemmas.{at_positions}
use Rattle.timefd_lint_lsp.proofs.editor.faults.push_fault.Goals as goal

pub returns : goal.returns
returns c =
    at_positions c.args.spot.text.now c.args.spot.description.now c.args.is_further c.args.diagnostic.now
    c.index_in_source-start.result c.index_in_source-end.result c.code_of-code.result.now (string_bytes c.in_ok-message.message)
    c.args.found.now.items c.push.new.found.items c.push.result c.index_in_source-start.ensures.position
    c.index_in_source-end.ensures.position c.code_of-code.ensures.code c.in_ok-message.ensures c.push.ensures
