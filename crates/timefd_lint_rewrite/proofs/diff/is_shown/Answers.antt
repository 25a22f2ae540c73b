use Rattle.std.proofs.Common.{arith}
use Rattle.std.proofs.lemmas.Int.{clamps}
use Rattle.timefd_lint_rewrite.proofs.DiffLemmas.{near}
use Rattle.timefd_lint_rewrite.proofs.diff.is_shown.Goals as goal

pub returns : goal.returns
returns c =
    near c.args.pairs.now c.args.at c.saturating_sub-from.result c.min-count.result
    c.any_changes.result (omega (arith, clamps, c.saturating_sub-from.ensures))
    (omega (arith, c.min-count.ensures)) c.any_changes.ensures
