use Rattle.timefd_lint.proofs.RuleLemmas.{error_added}
use Rattle.timefd_lint.proofs.rules.push_error.Goals as goal

pub returns : goal.returns
returns c =
    error_added c.push_rule.result c.args.code c.name.result.now c.summary.result.now c.explanation.result.now
    c.args.out.now.items c.push_rule.new.out.items c.name.ensures c.push_rule.ensures
