use Rattle.std.proofs.Common.{arith, ◌-◌}
use Rattle.timefd_lint_files.proofs.RowLemmas.{after_first}
use Rattle.timefd_lint_files.proofs.matching.add_all.Goals as goal

pub add_first-requires-clause-after : goal.add_first-requires-clause-after
add_first-requires-clause-after c =
    after_first c.args.tokens.now c.args.path.now c.tokens.row (c.tokens.from - 1) c.tokens.from
    (omega arith) c.tokens.invariant.within c.tokens.invariant.row
