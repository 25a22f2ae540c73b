use Rattle.timefd_lint.proofs.RuleLemmas.{other_rules_added}
use Rattle.timefd_lint.proofs.other_rules.push_other_rules.Goals as goal

pub returns : goal.returns
returns c =
    other_rules_added c.push_traps.result c.args.out.now.items c.push_reasons.new.out.items
    c.push_traps.new.out.items c.all_reasons.result.now c.own_traps.result.now
    c.all_reasons.ensures c.own_traps.ensures c.in_ok-push_reasons.ensures c.push_traps.ensures
