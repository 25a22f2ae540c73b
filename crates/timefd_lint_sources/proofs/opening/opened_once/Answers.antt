use Rattle.timefd_lint_sources.proofs.OpeningLemmas.{no_item}
use Rattle.timefd_lint_sources.proofs.opening.opened_once.Goals as goal

pub returns-in-None-clause-none : goal.returns-in-None-clause-none
returns-in-None-clause-none c = λ none next opened.
    no_item c.args.version c.args.text.now c.split_at.result.0.now c.split_at.result.1.now next
    c.in_ok-index.field-0 c.in-Some.index c.in_ok-index.ensures.all c.in-Some.is c.split_at.ensures.front
    c.split_at.ensures.back c.split_at.ensures.front_len
    (λ first after rest is. c.in-None.ensures.all first after rest is) opened
