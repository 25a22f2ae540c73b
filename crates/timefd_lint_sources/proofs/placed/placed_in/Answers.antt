use Rattle.timefd_lint_sources.proofs.PlacedLemmas.{placed}
use Rattle.timefd_lint_sources.proofs.placed.placed_in.Goals as goal

pub returns : goal.returns
returns c = placed c.args.diagnostic _ _ _ _ _ c.index_in_source.ensures.position c.index_in_source-2.ensures.position
