use Rattle.std.proofs.Common.{rules, arith}
use Rattle.std.specs.HashSet.{contains}
use Rattle.std.specs.Prelude.{nat_eq}
use Rattle.timefd_lint_scan.specs.Looks as spec
use Rattle.timefd_lint_scan.proofs.EachLemmas.{at_last, one_more_at}
use Rattle.timefd_lint_scan.proofs.look.calls_without.Goals as goal

pub loop-used-preserved : goal.loop-used-preserved
loop-used-preserved c =
    one_more_at (spec.unread (contains nat_eq c.args.named.now) c.args.has_chrono) c.args.uses.now c.loop-used.used-index _
    c.loop-used.calls.items c.push_unread.new.calls.items
    (first_of (search rules, omega (arith, c.loop-used-test.true)))
    c.in_ok-push_unread.ensures c.loop-used.invariant

pub returns : goal.returns
returns c =
    at_last (spec.unread (contains nat_eq c.args.named.now) c.args.has_chrono) c.args.uses.now c.loop-used.used-index
    c.loop-used.calls.items (first_of (search rules, omega (arith, c.loop-used-test.false))) c.loop-used.invariant
