use Rattle.std.proofs.Common.{◌∙◌, ap, ◌+◌}
use Rattle.timefd_language.specs.Cut.{class_test, is_high}
use Rattle.timefd_language.proofs.CutLemmas.{longer_front, front_from_part}
use Rattle.timefd_language.proofs.text.word_len.Goals as goal

pub returns-clause-len : goal.returns-clause-len
returns-clause-len c =
    ap (λ k. c.high_len-high.result + k) c.run_len.ensures.len ∙
    front_from_part (class_test c.args.class) c.args.bytes.now c.high_len-high.result
    (longer_front is_high (class_test c.args.class) c.args.bytes.now c.high_len-high.result
    c.requires c.high_len-high.ensures.front)
