use Rattle.timefd_language.specs.Bytes.{is_version_three}
use Rattle.std.proofs.Common.{◌≡◌, IfSome, Some, refl, subst}
use Rattle.timefd_language.specs.Spans.{SpansVersion}
use Rattle.timefd_parse.proofs.SpanLemmas.{name_spans}
use Rattle.timefd_parse.proofs.HeadVerdictLemmas.{refused_name, refused_first}
use Rattle.timefd_parse.proofs.head.verdict.head_verdict.Goals as goal

pub returns-in_default-clause-verdict : goal.returns-in_default-clause-verdict
returns-in_default-clause-verdict c = λ total h shows. refused_name _ total _ _ h _ shows c.in_default.is

pub returns-in-Some-fault-2-clause-verdict : goal.returns-in-Some-fault-2-clause-verdict
returns-in-Some-fault-2-clause-verdict c = λ total h shows.
    refused_first _ total _ _ h _ shows
    (subst (λ n. c.args.head.now.name ≡ Some n) c.in-First.is c.in-Some.is) c.in-Some-fault-2.is

pub returns-in_default-clause-span : goal.returns-in_default-clause-span
returns-in_default-clause-span c = λ text rest h begins faulty.
    name_spans _ text _ _ rest h begins _ refl refl refl (λ front. tt)

pub returns-in-Some-fault-clause-span : goal.returns-in-Some-fault-clause-span
returns-in-Some-fault-clause-span c = λ text rest h begins faulty.
    subst (λ o. IfSome o (SpansVersion (is_version_three c.args.version) text)) c.in-Some-fault.is faulty

pub returns-in-Some-fault-2-clause-span : goal.returns-in-Some-fault-2-clause-span
returns-in-Some-fault-2-clause-span c = λ text rest h begins faulty.
    subst (λ o. IfSome o (SpansVersion (is_version_three c.args.version) text)) c.in-Some-fault-2.is faulty
