use Rattle.std.proofs.Common.{◌-◌, arith, drop, length}
use Rattle.std.proofs.lemmas.List.{length-drop, take_all}
use Rattle.timefd_c_nodes.proofs.DatesLemmas.WalkLemmas.{one_read}
use Rattle.timefd_c_nodes.proofs.dates.fast.walk.numbers_shown.Goals as goal

pub nodes-preserved : goal.nodes-preserved
nodes-preserved c =
    one_read c.args.literals.now c.args.nodes.now c.nodes.node-index c.nodes.count _ c.args.date.now c.nodes.left.now _
    c.nodes.numbers c.in_ok-taken.taken c.nodes-test.true c.nodes.invariant c.in_ok-taken.ensures
    (take_all (length c.nodes.left.now - c.in_ok-taken.taken.len) (drop c.in_ok-taken.taken.len c.nodes.left.now)
    (omega (arith, length-drop c.in_ok-taken.taken.len c.nodes.left.now)))
