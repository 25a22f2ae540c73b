use Rattle.std.proofs.Common.{subst}
use Rattle.timefd_language.specs.Grammar.{nesting_limit}
use Rattle.timefd_parse.specs.Language.{IsAssignedIn}
use Rattle.timefd_parse.proofs.AmountLemmas.{owned-assigned-in}
use Rattle.timefd_lint_rewrite.proofs.fixing.accepted.Goals as goal

pub returns-in-Err-clause-fault : goal.returns-in-Err-clause-fault
returns-in-Err-clause-fault c =
    subst (λ t. IsAssignedIn c.args.language nesting_limit t c.into_owned.result) c.deref.ensures
    (owned-assigned-in c.args.language nesting_limit c.deref.result.now _ _ c.in-Err.ensures.fault
    c.into_owned.ensures)
