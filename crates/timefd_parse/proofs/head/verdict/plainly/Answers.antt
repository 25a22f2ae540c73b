use Rattle.timefd_parse.proofs.HeadVerdictLemmas as lemmas
use Rattle.timefd_language.specs.Bytes.{is_version_three}
use Rattle.timefd_parse.proofs.SpanLemmas.{plain_spans}
use Rattle.timefd_parse.proofs.head.verdict.plainly.Goals as goal

pub returns-clause-head : goal.returns-clause-head
returns-clause-head c =
    lemmas.plainly (is_version_three c.args.version) c.args.inside.now c.args.word.now _ _ c.args.verdict c.requires
    c.in_ok-rest.ensures c.in-Opening.ensures

pub returns-clause-span : goal.returns-clause-span
returns-clause-span c = λ text. plain_spans (is_version_three c.args.version) text c.args.word.now c.args.verdict c.requires
