use Rattle.std.proofs.Common.{◌≡◌, Some, rules, string_bytes}
use Rattle.std.specs.BTreeMap.{get_by_text}
use Rattle.timefd_lint_lsp.proofs.ChangedLemmas.{are_made}
use Rattle.timefd_lint_lsp.proofs.reporting.changed.Goals as goal

pub returns-in_ok-step-in-Some-2-clause-documents : goal.returns-in_ok-step-in-Some-2-clause-documents
returns-in_ok-step-in-Some-2-clause-documents c =
    let is : get_by_text c.args.documents.now (string_bytes c.args.uri) ≡ Some c.in-Some.document.now =
    search rules in
    are_made (string_bytes c.args.uri) c.as_str-2.result.now c.in-Some-2.text c.in_ok-text.field-0 c.args.changes.now
    c.args.documents.now c.with_text.new.documents c.in-Some.document.now is c.as_str-2.ensures.value c.in-Some-2.is
    c.in_ok-text.ensures c.in_ok-step-in-Some-2.ensures.documents
