use Rattle.timefd_lint_warnings.proofs.HintLemmas.{are_offered}
use Rattle.timefd_lint_warnings.proofs.hint.offered.Goals as goal

pub returns : goal.returns
returns c =
    are_offered c.args.text.now c.as_bytes.result.now c.contains-has_percent.result c.in_ok-all.all.items
    c.deref.result.now c.new-dialects.result.items c.push_offered.new.dialects.items c.as_bytes.ensures.value
    c.contains-has_percent.ensures.value c.in_ok-all.ensures c.deref.ensures.value c.new-dialects.ensures.items
    c.in_ok-push_offered.ensures
