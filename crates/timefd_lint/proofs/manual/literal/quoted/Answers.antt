use Rattle.std.proofs.Common.{arith, string_bytes}
use Rattle.std.proofs.lemmas.Result.{IfOk-weaker}
use Rattle.timefd_lint.proofs.LiteralLemmas.{quoted_of}
use Rattle.timefd_lint.proofs.manual.literal.quoted.Goals as goal

pub returns : goal.returns
returns c =
    IfOk-weaker c.format.result _ _
    (λ literal. quoted_of c.args.source.now c.args.description.now c.args.body.now c.part-opening.result.now
    c.text_of-body.result.now c.part-closing.result.now c.body_end-end.result c.saturating_sub-body_start.result
    c.body_end-end.ensures (cc) c.part-opening.ensures c.text_of-body.ensures c.part-closing.ensures
    (string_bytes literal)) c.format.ensures.ok
