use Rattle.std.proofs.Common.{subst}
use Rattle.std.specs.Prelude.{OnOk}
use Rattle.timefd_parse.specs.Tree.{Text}
use Rattle.timefd_lint_diagnosis.specs.declared.diagnostic.Span.{Span}
use Rattle.timefd_lint_lsp.specs.declared.editor.finding.Severity.TheVariants.{Error}
use Rattle.timefd_lint_lsp.specs.Editor.Each.{Adds}
use Rattle.timefd_lint_lsp.specs.Editor.Finding.{IsOne}
use Rattle.timefd_lint_sources.specs.Remarks.{language_code, language_sentence}
use Rattle.timefd_lint_lsp.proofs.editor.remarked.push_no_language.Goals as goal

pub returns : goal.returns
returns c =
    subst (λ (w : Span). OnOk c.push_at.result
    (Adds (IsOne c.args.text.now w.start w.end Error language_code language_sentence) c.args.found.now.items
    c.push_at.new.found.items)) c.word_at-word.ensures
    (subst (λ (m : Text). OnOk c.push_at.result
    (Adds (IsOne c.args.text.now c.word_at-word.result.start c.word_at-word.result.end Error language_code m)
    c.args.found.now.items c.push_at.new.found.items)) c.in_ok-message.ensures.ok c.push_at.ensures)
