use Rattle.std.proofs.Common.{arith, rules}
use Rattle.timefd_web.proofs.RecordLemmas.{all_listed, appended}
use Rattle.timefd_web.proofs.records.push_list.Goals as goal

pub returns-in_ok-push_others-in-len1-up : goal.returns-in_ok-push_others-in-len1-up
returns-in_ok-push_others-in-len1-up g c =
    all_listed g.T.Record.object_text c.extend_from_slice-in-len1-up.result c.args.out.now.items
    c.args.front.now c.as_bytes.result.now _ _ _ _ c.args.records.now c.first-item.result _
    (search rules) (omega (arith, c.in-len1-up.len_at_least)) c.first-item.is
    c.as_bytes.ensures.value c.in_ok-extend_from_slice.ensures.items
    c.in_ok-push_one-in-len1-up.ensures c.in_ok-push_others-in-len1-up.ensures
    (appended c.extend_from_slice-in-len1-up.result _ _ _
    c.extend_from_slice-in-len1-up.ensures.items)
