use Rattle.std.proofs.Common.{arith}
use Rattle.timefd_lint_scan.proofs.RunsLemmas.{run_more}
use Rattle.timefd_lint_scan.proofs.runs.run_after.Goals as goal

pub uses-preserved : goal.uses-preserved
uses-preserved c = record {
  further = omega (arith, c.uses.invariant.further, c.max-next.ensures);
  run = run_more c.args.uses.now c.args.index c.uses.next c.end_at.result c.max-next.result c.args.runs.now _ _
      c.requires.below c.uses-test.true c.uses.invariant.further c.requires.runs c.if-start-uses.true c.end_at.ensures
      c.max-next.ensures c.uses.invariant.run;
}
