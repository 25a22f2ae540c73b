use Rattle.std.proofs.Common.{string_bytes}
use Rattle.std.proofs.lemmas.Result.{IfOk-weaker}
use Rattle.timefd_lint.proofs.LiteralLemmas.{in_its_quotes}
use Rattle.timefd_lint.proofs.manual.literal.literal_of.Goals as goal

pub returns-in-Some : goal.returns-in-Some
returns-in-Some c =
    IfOk-weaker c.quoted.result _ _
    (λ literal. in_its_quotes c.args.source.now c.args.description.now c.args.text.now c.as_bytes.result.now
    c.deref.result.now c.in_ok-body.field-0 c.in-Some.body c.as_bytes.ensures.value c.in-Some.is
    c.in_ok-body.ensures.body c.deref.ensures.value (string_bytes literal)) c.quoted.ensures
