use Rattle.std.proofs.Common.{◌-◌, arith, drop, length, refl}
use Rattle.std.proofs.lemmas.List.{length-drop, take_all}
use Rattle.timefd_c.proofs.FastLemmas.WalkLemmas.{ended, one_written}
use Rattle.timefd_c.proofs.fast.walk.append_nodes.Goals as goal

pub returns-then-node-eq-COMPOUND : goal.returns-then-node-eq-COMPOUND
returns-then-node-eq-COMPOUND c =
    ended c.args.moment.now c.args.literals.now c.args.nodes.now c.nodes.left.now _ _ c.args.room.now c.nodes.room
    c.nodes.at c.end_of.result refl c.if-node-eq-COMPOUND.true c.end_of.ensures.end c.end_of.ensures.last
    c.end_of.ensures.fits c.nodes.invariant

pub nodes-preserved : goal.nodes-preserved
nodes-preserved c =
    one_written c.args.moment.now c.args.literals.now c.args.nodes.now c.nodes.left.now _ _ _ c.args.room.now
    c.nodes.room c.append_leaf.new.room c.nodes.at c.in_ok-at.field-0 c.nodes-test.true refl
    (take_all (length c.nodes.left.now - 1) (drop 1 c.nodes.left.now) (omega (arith, length-drop 1 c.nodes.left.now)))
    c.nodes.invariant c.in_ok-at.ensures.appended
