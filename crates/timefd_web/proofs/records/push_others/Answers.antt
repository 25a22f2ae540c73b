use Rattle.std.proofs.Common.{arith}
use Rattle.timefd_web.specs.Records.{after_comma}
use Rattle.timefd_web.proofs.RecordLemmas.{one_more}
use Rattle.timefd_web.proofs.records.push_others.Goals as goal

pub loop-one-preserved : goal.loop-one-preserved
loop-one-preserved g c =
    one_more (after_comma g.T.Record.object_text) c.loop-one.out.items _ c.push_one.new.out.items
    c.args.records.now c.loop-one.one-index c.one-item.result (omega (arith, c.loop-one-test.true))
    c.loop-one.invariant c.one-item.is c.in_ok-push_one.ensures
