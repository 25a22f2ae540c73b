use Rattle.std.proofs.Common.{rules}
use Rattle.timefd_lint_scan.proofs.LookLemmas.{seen}
use Rattle.timefd_lint_scan.proofs.look.seen_alone.Goals as goal

pub returns : goal.returns
returns c =
    seen c.args.source.now c.as_bytes.result.now c.as_bytes-2.result.now c.args.own.now c.in_ok-pieces.field-0.pieces.items
    c.in_ok-pieces.field-0.comments.items c.deref.result.now c.deref-2.result.now c.deref-3.result.now
    c.in_ok-marks.marks.items c.deref-4.result.now
    (record {
      descriptions = c.in_ok-descriptions.field-0.descriptions;
      calls = c.in_ok-descriptions.field-0.calls;
      comments = c.in_ok-words.words;
    }) c.in_ok-pieces.ensures c.as_bytes.ensures.value (search rules) c.in_ok-marks.ensures
    c.as_bytes-2.ensures.value (search rules) c.in_ok-words.ensures (search rules) (search rules)
    c.in_ok-descriptions.ensures.described c.in_ok-descriptions.ensures.calls
