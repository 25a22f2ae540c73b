use Rattle.timefd_lint_files.proofs.TokenLemmas.{at_last}
use Rattle.timefd_lint_files.proofs.tokens.push_tokens.Goals as goal

pub returns : goal.returns
returns c =
    at_last c.args.text.now c.tokens.rest.now c.args.tokens.now.items c.tokens.tokens.items
    c.tokens.begins_name c.in_ok-step.field-0 c.tokens.invariant c.in_ok-step.ensures.begin c.in_default.is
