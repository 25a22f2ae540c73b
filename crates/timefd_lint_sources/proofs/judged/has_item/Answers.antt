use Rattle.timefd_lint_sources.proofs.judged.has_item.Goals as goal

pub returns-in-None-clause-none : goal.returns-in-None-clause-none
returns-in-None-clause-none c = λ none next opened. c.in_ok-_opened.ensures.none c.in-None.is next opened
