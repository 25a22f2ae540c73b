use Rattle.std.proofs.Common.{refl}
use Rattle.timefd_parse.proofs.SpanLemmas.{byte_spans}
use Rattle.timefd_parse.proofs.read.unclosed.Goals as goal

pub returns-clause-span : goal.returns-clause-span
returns-clause-span c = λ strict text at. byte_spans strict text c.args.start _ at refl refl refl (λ front. tt)
