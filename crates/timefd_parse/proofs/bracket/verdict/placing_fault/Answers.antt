use Rattle.std.proofs.Common.{refl, arith}
use Rattle.timefd_parse.proofs.SpanLemmas.{byte_spans}
use Rattle.timefd_parse.proofs.bracket.verdict.placing_fault.Goals as goal

pub returns-then-not-nested-clause-span : goal.returns-then-not-nested-clause-span
returns-then-not-nested-clause-span c = λ strict text stands.
    byte_spans strict text _ _ (stands.first (omega (arith, c.if-nested-eq0.false))) refl refl refl (λ front. tt)

pub returns-clause-span : goal.returns-clause-span
returns-clause-span c = λ strict text stands. byte_spans strict text _ _ stands.start refl refl refl (λ front. tt)
