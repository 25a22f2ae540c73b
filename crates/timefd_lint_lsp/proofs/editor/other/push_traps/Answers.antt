use Rattle.std.proofs.Common.{rules, arith}
use Rattle.timefd_lint_lsp.proofs.EditorLemmas.EachLemmas.{one_more_at}
use Rattle.timefd_lint_lsp.specs.Editor.Others.{IsTrap}
use Rattle.timefd_lint_lsp.proofs.editor.other.push_traps.Goals as goal

pub loop-trap-preserved : goal.loop-trap-preserved
loop-trap-preserved c =
    one_more_at (IsTrap c.args.spot.text.now c.args.spot.description.now) c.args.all.now c.loop-trap.trap-index _
    c.args.found.now.items c.loop-trap.found.items c.push_trap.new.found.items
    (first_of (search rules, omega (arith, c.loop-trap-test.true))) c.loop-trap.invariant c.in_ok-push_trap.ensures
