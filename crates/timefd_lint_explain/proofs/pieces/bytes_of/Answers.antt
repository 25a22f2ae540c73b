use Rattle.std.proofs.Common.{◌∙◌}
use Rattle.timefd_lint_explain.proofs.ShownLemmas.{sum_end, sum_is}
use Rattle.timefd_lint_explain.proofs.pieces.bytes_of.Goals as goal

pub returns : goal.returns
returns c = λ list are.
    sum_end c.args.pieces.now c.pieces.at c.pieces.bytes _ c.pieces-test.false
    c.pieces.invariant.capped c.pieces.invariant.all
    ∙ sum_is c.args.pieces.now list are
