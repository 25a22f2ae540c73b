use Rattle.std.proofs.Common.{◌≡◌, subst}
use Rattle.timefd_lint_scan.proofs.GivenLemmas.{all_given}
use Rattle.timefd_lint_scan.proofs.JoinLemmas.{ArePlaced, all_placed}
use Rattle.timefd_lint_scan.proofs.doc_look.joining.parts_of.Goals as goal

pub returns : goal.returns
returns c =
    let all : c.loop-description.yielded ≡ c.args.own.items =
    all_given c.args.own c.into_iter-description-iterator.result c.loop-description.description-iterator c.next.new.self
    c.loop-description.yielded c.next.result c.into_iter-description-iterator.ensures.into_iter_gives.0
    c.into_iter-description-iterator.ensures.into_iter_gives.1 c.loop-description.yielded_by c.in-None.is c.next.ensures.steps in
    all_placed c.args.candidates.now c.loop-description.left.now c.args.own.items c.loop-description.parts.items
    c.push_all.new.parts.items c.in_ok-push_all.ensures
    (subst (λ placed. ArePlaced c.args.candidates.now placed c.loop-description.left.now c.loop-description.parts.items) all
    c.loop-description.invariant)
