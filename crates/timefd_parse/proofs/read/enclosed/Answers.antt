use Rattle.timefd_parse.proofs.read.enclosed.Goals as goal

pub returns-in-Invalid-UnclosedBracket-clause-span : goal.returns-in-Invalid-UnclosedBracket-clause-span
returns-in-Invalid-UnclosedBracket-clause-span c = λ strict text at is.
    c.unclosed.ensures.span strict text at
