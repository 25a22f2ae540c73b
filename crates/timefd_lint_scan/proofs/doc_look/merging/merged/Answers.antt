use Rattle.std.proofs.Common.{◌≡◌, subst}
use Rattle.timefd_lint_scan.proofs.GivenLemmas.{all_given}
use Rattle.timefd_lint_scan.proofs.MergeLemmas.{AreSoFar, at_last}
use Rattle.timefd_lint_scan.proofs.doc_look.merging.merged.Goals as goal

pub returns : goal.returns
returns c =
    let all : c.loop-at.yielded ≡ c.args.one.items =
    all_given c.args.one c.into_iter-at-iterator.result c.loop-at.at-iterator c.next.new.self c.loop-at.yielded c.next.result
    c.into_iter-at-iterator.ensures.into_iter_gives.0 c.into_iter-at-iterator.ensures.into_iter_gives.1 c.loop-at.yielded_by
    c.in-None.is c.next.ensures.steps in
    at_last c.args.other.now c.args.one.items c.loop-at.left.now c.loop-at.all.items c.extend_from_slice.new.self.items
    c.in_ok-extend_from_slice.ensures.items
    (subst (λ taken. AreSoFar c.args.other.now taken c.loop-at.left.now c.loop-at.all.items) all c.loop-at.invariant)
