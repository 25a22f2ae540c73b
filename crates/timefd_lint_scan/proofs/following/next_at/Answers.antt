use Rattle.std.proofs.Common.{◌∙◌, ap, arith, get_or, subst, sym}
use Rattle.timefd_lint_scan.specs.Following.{AreOthers}
use Rattle.timefd_lint_scan.proofs.FollowingLemmas.{at_least_one}
use Rattle.timefd_lint_scan.proofs.following.next_at.Goals as goal

pub returns-clause-others : goal.returns-clause-others
returns-clause-others c =
    at_least_one c.args.source.now c.args.uses.now c.args.index c.end_at.result c.max.result c.max.ensures
    (subst (AreOthers c.args.source.now c.args.uses.now c.args.index)
    (sym (c.end_at.ensures ∙ ap (λ v. get_or v c.args.index 0) c.deref.ensures.value))
    (c.requires.followed.nexts.next_at c.args.index (omega arith) c.requires.below))
