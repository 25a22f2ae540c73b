use Rattle.timefd_lint_lsp.proofs.EditorLemmas.WarningLemmas.{pushed}
use Rattle.timefd_lint_lsp.specs.declared.editor.finding.Finding.{Finding}
use Rattle.timefd_lint_lsp.proofs.editor.finding.push_at.Goals as goal

pub returns : goal.returns
returns c =
    let f : Finding = record {
      range = c.range_from-range.result;
      severity = c.args.severity;
      code = c.args.code;
      message = c.args.message;
    } in
    pushed c.args.text.now c.args.start c.args.end f c.args.found.now.items c.push.new.self.items
    c.range_from-range.ensures c.in_ok-push.ensures.items
