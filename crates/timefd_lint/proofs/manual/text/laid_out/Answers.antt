use Rattle.timefd_lint_sources.proofs.RewritingLemmas.AnswerLemmas.{becoming}
use Rattle.timefd_lint_sources.proofs.RewritingLemmas.AsideLemmas.{in_answer}
use Rattle.timefd_lint_sources.specs.Rewriting.Written.{BecomesBy, Becoming}
use Rattle.timefd_lint.proofs.ManualLemmas.{refused_by}
use Rattle.timefd_lint.proofs.manual.text.laid_out.Goals as goal

pub returns-clause-becomes : goal.returns-clause-becomes
returns-clause-becomes c =
    in_answer (BecomesBy c.args.layout c.args.description.now) (Becoming c.args.change c.args.description.now)
    c.text_by.result
    (λ t is. becoming c.args.change c.args.description.now c.args.layout t c.requires.layout is) c.text_by.ensures.becomes

pub returns-clause-stays : goal.returns-clause-stays
returns-clause-stays c =
    refused_by c.args.change c.args.description.now c.args.layout c.args.text.now c.text_by.result c.requires.text
    c.requires.layout c.text_by.ensures.refused
