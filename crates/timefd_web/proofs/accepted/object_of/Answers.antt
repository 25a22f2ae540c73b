use Rattle.timefd_web.proofs.ObjectLemmas.{object_by}
use Rattle.timefd_web.proofs.accepted.object_of.Goals as goal

pub returns : goal.returns
returns c =
    object_by c.args.explanation.now c.args.written.now c.args.later.now _ _ _ _ _ _ _
    c.deref.result.now c.deref-2.result.now c.new-out.ensures.items c.in_ok-push_number.ensures
    c.in_ok-push_list.ensures c.deref.ensures.value c.in_ok-push_optional.ensures
    c.in_ok-push_optional-2.ensures c.in_ok-push_text.ensures c.deref-2.ensures
    c.in_ok-extend_from_slice.ensures.items
