use Rattle.timefd_lint_explain.proofs.SampleLemmas.{of_text}
use Rattle.timefd_lint_explain.proofs.example.sample.Goals as goal

pub returns-clause-text : goal.returns-clause-text
returns-clause-text c =
    of_text c.text_of.result c.moment.result c.args.component c.moment.ensures c.text_of.ensures
