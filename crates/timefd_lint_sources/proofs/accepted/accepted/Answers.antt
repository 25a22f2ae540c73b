use Rattle.std.proofs.Common.{subst}
use Rattle.std.specs.Prelude.{IfOk}
use Rattle.timefd_lint_sources.specs.Whole.{IsTreeAndWarnings}
use Rattle.timefd_lint_sources.proofs.accepted.accepted.Goals as goal

pub returns : goal.returns
returns c =
    subst (λ l. IfOk c.at_literal.result (λ m. IsTreeAndWarnings c.args.language c.args.reporting c.args.source
    c.args.description.now l m.items)) c.levels_of.ensures c.at_literal.ensures
