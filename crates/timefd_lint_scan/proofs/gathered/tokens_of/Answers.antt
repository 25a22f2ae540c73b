use Rattle.timefd_lint_scan.proofs.GatheredLemmas.{at_last}
use Rattle.timefd_lint_scan.proofs.gathered.tokens_of.Goals as goal

pub returns : goal.returns
returns c =
    at_last c.args.source.now c.tokens.rest.now c.tokens.pieces.items c.tokens.comments.items c.first.result
    c.tokens.invariant.are c.first.ensures.begin c.in_default.is
