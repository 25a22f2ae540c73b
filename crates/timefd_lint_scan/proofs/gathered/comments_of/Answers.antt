use Rattle.timefd_lint_scan.proofs.GatheredLemmas.{all_comments}
use Rattle.timefd_lint_scan.proofs.gathered.comments_of.Goals as goal

pub returns : goal.returns
returns c =
    all_comments c.args.source.now c.tokens.rest.now c.tokens.comments.items c.first.result c.tokens.invariant.are
    c.first.ensures.begin c.in_default.is
