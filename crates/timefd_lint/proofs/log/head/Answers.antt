use Rattle.timefd_lint.proofs.RuleLemmas.{head_joined}
use Rattle.timefd_lint.proofs.log.head.Goals as goal

pub returns : goal.returns
returns c =
    head_joined c.joined.result c.new-rules.result.items c.as_bytes.result.now c.deref.result.now
    c.push_rules.new.out.items c.new-rules.ensures.items c.as_bytes.ensures.value c.deref.ensures.value
    c.in_ok-push_rules.ensures c.joined.ensures
