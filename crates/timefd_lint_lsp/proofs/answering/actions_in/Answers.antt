use Rattle.std.proofs.Common.{ap, rules, sym, ◌≡◌, ◌∙◌}
use Rattle.std.specs.Prelude.{Some, string_bytes}
use Rattle.std.specs.BTreeMap.{get_by_text}
use Rattle.timefd_lint_lsp.specs.Editor.Positions.{index_of}
use Rattle.timefd_lint_lsp.proofs.AnswerLemmas.{actions_of}
use Rattle.timefd_lint_lsp.proofs.answering.actions_in.Goals as goal

pub returns-clause-answer : goal.returns-clause-answer
returns-clause-answer c =
    let is : get_by_text c.args.documents.now (string_bytes c.args.uri) ≡ Some c.in-Some.document.now =
    search rules in
    let whole = c.source_of-source.ensures.text ∙ c.as_str-text.ensures.value in
    actions_of c.args.settings (get_by_text c.args.documents.now (string_bytes c.args.uri)) c.in-Some.document.now
    c.args.uri c.args.range c.args.wanted c.source_of-source.result c.in_ok-actions.actions c.index_of-start.result
    c.index_of-end.result is c.source_of-source.ensures.finder whole
    (c.index_of-start.ensures.index ∙ ap (λ t. index_of t c.args.range.start) (sym c.source_of-source.ensures.text))
    (c.index_of-end.ensures.index ∙ ap (λ t. index_of t c.args.range.end) (sym c.source_of-source.ensures.text))
    c.in_ok-actions.ensures
