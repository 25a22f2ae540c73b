use Rattle.std.proofs.Common.{refl, subst, sym}
use Rattle.timefd_lint_sources.specs.Allowances.Found.{AreAllowances}
use Rattle.timefd_lint_lsp.proofs.EditorLemmas.LeftLemmas.{of_source}
use Rattle.timefd_lint_lsp.proofs.editor.all_findings.findings.Goals as goal

pub returns : goal.returns
returns c =
    of_source c.args.levels c.args.source _ c.findings_left.result refl refl
    (subst (AreAllowances c.args.source.finder c.args.source.text.now) (sym c.deref.ensures.value)
    c.in_ok-allowances.ensures) c.findings_left.ensures
