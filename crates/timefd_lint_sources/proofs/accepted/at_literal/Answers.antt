use Rattle.std.proofs.Common.{ap}
use Rattle.timefd_lint_sources.proofs.ReportedLemmas.{at_literal}
use Rattle.timefd_lint_sources.proofs.accepted.at_literal.Goals as goal

pub returns : goal.returns
returns c =
    at_literal c.args.reporting c.args.source c.args.description.now c.args.language c.args.found c.args.text.now
    c.in_ok-position.position.line c.in_ok-position.position.column c.tree_with_warnings.result c.requires.text
    (ap (λ p. p.line) c.in_ok-position.ensures) (ap (λ p. p.column) c.in_ok-position.ensures)
    c.tree_with_warnings.ensures
