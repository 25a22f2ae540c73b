use Rattle.std.proofs.Common.{refl, rules}
use Rattle.timefd_lint_diagnosis.specs.Words.{texts}
use Rattle.timefd_lint_sources.proofs.NoCodeLemmas.{one_more}
use Rattle.timefd_lint_sources.proofs.no_code.push_unknown.Goals as goal

pub comments-preserved : goal.comments-preserved
comments-preserved c =
    one_more c.args.source.now (texts c.args.codes.now) c.args.allowances.now c.comments.left.now _ _ _
    c.args.remarks.now.items c.comments.remarks.items c.push_code.new.remarks.items (search rules)
    c.in-len1-up.len_at_least refl c.in_ok-push_code.ensures c.comments.invariant
