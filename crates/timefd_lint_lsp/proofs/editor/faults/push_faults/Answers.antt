use Rattle.timefd_lint_lsp.proofs.EditorLemmas.FindingLemmas.{faults}
use Rattle.timefd_lint_lsp.proofs.editor.faults.push_faults.Goals as goal

pub returns : goal.returns
returns c =
    faults c.args.spot.text.now c.args.spot.description.now c.args.faults.now c.first-item.result
    c.args.found.now.items c.push_fault.new.found.items c.push_further.new.found.items c.push_further.result
    c.in-len1-up.len_at_least c.first-item.is c.in_ok-push_fault.ensures c.push_further.ensures
