use Rattle.timefd_lint_sources.specs.Rewriting.Aside.{IsConvertedAround}
use Rattle.timefd_lint_sources.specs.Rewriting.Written.{BecomesBy}
use Rattle.timefd_lint_sources.proofs.RewritingLemmas.AnswerLemmas.{converts_around}
use Rattle.timefd_lint_sources.proofs.RewritingLemmas.AsideLemmas.{in_answer}
use Rattle.timefd_lint_sources.proofs.rewriting.text.around_items.Goals as goal

pub returns-in-Some-clause-becomes : goal.returns-in-Some-clause-becomes
returns-in-Some-clause-becomes c =
    in_answer (IsConvertedAround c.in-Some.version c.args.layout c.args.text.now)
    (BecomesBy c.args.layout c.args.description.now) c.converted_around.result
    (λ t is. converts_around c.args.description.now c.args.layout c.args.text.now t c.in-Some.version c.taking.result
    c.requires.text c.taking.ensures c.in-Some.is is) c.converted_around.ensures
