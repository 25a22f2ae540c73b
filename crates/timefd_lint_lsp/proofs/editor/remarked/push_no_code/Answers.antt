use Rattle.std.proofs.Common.{subst}
use Rattle.std.specs.Prelude.{OnOk}
use Rattle.timefd_parse.specs.Tree.{Text}
use Rattle.timefd_lint_lsp.specs.declared.editor.finding.Severity.TheVariants.{Error}
use Rattle.timefd_lint_lsp.specs.Editor.Each.{Adds}
use Rattle.timefd_lint_lsp.specs.Editor.Finding.{IsOne}
use Rattle.timefd_lint_sources.specs.Remarks.{no_code}
use Rattle.timefd_lint_lsp.proofs.editor.remarked.push_no_code.Goals as goal

pub returns : goal.returns
returns c =
    subst (λ (m : Text). OnOk c.push_at.result
    (Adds (IsOne c.args.text.now c.args.word.start c.args.word.end Error no_code m) c.args.found.now.items
    c.push_at.new.found.items)) c.in_ok-message.ensures c.push_at.ensures
