use Rattle.timefd_lint.proofs.RuleLemmas.{rules_added}
use Rattle.timefd_lint.proofs.rules.push_rules.Goals as goal

pub returns : goal.returns
returns c =
    rules_added c.push_other_rules.result c.args.out.now.items c.push_faults.new.out.items
    c.push_errors.new.out.items c.push_warnings.new.out.items c.push_other_rules.new.out.items
    c.all.result.now c.others.result.now
    c.all-2.result.now c.all.ensures c.others.ensures c.all-2.ensures c.in_ok-push_faults.ensures
    c.in_ok-push_errors.ensures c.in_ok-push_warnings.ensures c.push_other_rules.ensures
