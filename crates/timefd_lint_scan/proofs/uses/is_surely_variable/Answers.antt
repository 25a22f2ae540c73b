use Rattle.std.proofs.Common.{◌≡◌, subst, true}
use Rattle.timefd_lint_scan.specs.Scopes.{stays_open}
use Rattle.timefd_lint_scan.proofs.LayoutLemmas.{rest_after}
use Rattle.timefd_lint_scan.proofs.uses.is_surely_variable.Goals as goal

pub returns-then-has_one_variable-clause-stays : goal.returns-then-has_one_variable-clause-stays
returns-then-has_one_variable-clause-stays c = λ sure.
    subst (λ ps. stays_open c.args.source.now c.args.position 0 ps ≡ true) (rest_after c.args.pieces.now c.args.declared)
    (c.is_open_after.ensures sure)
