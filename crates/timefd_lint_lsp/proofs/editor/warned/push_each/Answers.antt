use Rattle.std.proofs.Common.{rules, arith}
use Rattle.timefd_lint_lsp.proofs.EditorLemmas.EachLemmas.{one_more_at}
use Rattle.timefd_lint_lsp.specs.Editor.Finding.{IsWarned}
use Rattle.timefd_lint_lsp.proofs.editor.warned.push_each.Goals as goal

pub loop-warning-preserved : goal.loop-warning-preserved
loop-warning-preserved c =
    one_more_at (IsWarned c.args.spot.text.now c.args.spot.description.now c.args.warned) c.args.warnings.now
    c.loop-warning.warning-index _ c.args.found.now.items c.loop-warning.found.items
    c.push_warning.new.found.items (first_of (search rules, omega (arith, c.loop-warning-test.true)))
    c.loop-warning.invariant c.in_ok-push_warning.ensures
