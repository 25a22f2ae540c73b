use Rattle.std.proofs.Common.{codes}
use Rattle.timefd_web.proofs.RecordLemmas.{three_pushed}
use Rattle.timefd_web.proofs.converting.push_reason.Goals as goal

pub returns : goal.returns
returns c =
    three_pushed c.push_text-3.result c.args.out.now.items c.push_text.new.out.items
    c.push_text-2.new.out.items c.push_text-3.new.out.items
    (codes "{\"converted\":false,\"reason\":") (codes ",\"message\":") (codes ",\"help\":")
    c.name.result.now c.sentence.result.now c.cure.result.now _ _ _ c.name.ensures
    c.sentence.ensures c.cure.ensures c.in_ok-push_text.ensures c.in_ok-push_text-2.ensures
    c.push_text-3.ensures
