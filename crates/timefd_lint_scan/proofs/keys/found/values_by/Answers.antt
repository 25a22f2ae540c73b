use Rattle.std.proofs.Common.{subst, rules, arith}
use Rattle.timefd_lint_scan.specs.Bytes.{Text}
use Rattle.timefd_lint_scan.proofs.FoundLemmas.{any_more}
use Rattle.timefd_lint_scan.specs.Keys.Comments.{IsLineAt}
use Rattle.timefd_lint_scan.specs.Keys.Found.{StandsIn}
use Rattle.timefd_lint_scan.proofs.KeysLemmas.FoundLemmas.{each_at_last, one_more}
use Rattle.timefd_lint_scan.proofs.keys.found.values_by.Goals as goal

pub steps-preserved : goal.steps-preserved
steps-preserved c = record {
  found = any_more (StandsIn c.args.format c.args.source.now) c.steps.descriptions.items
      c.push_any.new.descriptions.items c.in_ok-step.step.found c.steps.end c.in_ok-end.end
      c.steps.invariant.found c.in_ok-step.ensures.stands c.in_ok-end.ensures.pushed c.in_ok-end.ensures.end;
  stops = one_more c.args.format c.args.source.now c.args.keys.now c.steps.spot c.after-next.result
      c.steps.end c.in_ok-end.end c.steps.descriptions.items c.push_any.new.descriptions.items
      c.steps.unread.items c.push_unread.new.positions.items c.in_ok-step.step
      c.steps.invariant.stops (first_of (search rules, omega (arith, c.steps-test.true)))
      c.in_ok-step.ensures.step c.in_ok-end.ensures.pushed c.in_ok-end.ensures.end
      c.in_ok-push_unread.ensures c.after-next.ensures.moved;
  line = subst (λ (s : Text). IsLineAt c.args.format s c.after-next.result.at c.later-line.result)
      c.as_bytes.ensures.value c.later-line.ensures;
  within = c.after-next.ensures.within;
}

pub returns-clause-stand : goal.returns-clause-stand
returns-clause-stand c = each_at_last c.args.format c.args.source.now c.args.keys.now c.steps.spot c.steps.end
    c.steps.end c.steps.descriptions.items c.steps.unread.items c.steps.invariant.stops
    (omega (arith, c.steps-test.false)) c.steps.invariant.found
