use Rattle.std.proofs.Common.{sym, subst}
use Rattle.std.specs.Prelude.{IfSome}
use Rattle.timefd_c_nodes.specs.Dates.Taken.{IsTaken}
use Rattle.timefd_c_nodes.proofs.DatesLemmas.StepLemmas.{component_taken}
use Rattle.timefd_c_nodes.proofs.dates.fast.walk.take_node.Goals as goal

pub returns-in_ok-component-in-2 : goal.returns-in_ok-component-in-2
returns-in_ok-component-in-2 c =
    subst (λ o. IfSome o (IsTaken c.args.literals.now c.args.node.now c.args.left.now c.args.numbers c.args.count))
    (sym c.one_more.ensures)
    (component_taken c.args.literals.now c.args.node.now c.in_ok-component-in-2.component c.args.left.now c.args.numbers
    c.args.count c.take_leaf.result (search) c.in_ok-component-in-2.ensures.is c.in_ok-component-in-2.ensures.modern
    c.take_leaf.ensures.within c.take_leaf.ensures.reads)
