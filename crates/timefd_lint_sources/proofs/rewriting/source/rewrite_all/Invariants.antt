use Rattle.std.proofs.Common.{drop}
use Rattle.timefd_lint_sources.proofs.RewritingLemmas.SourceLemmas.{AreRewrittenTo}
use Rattle.timefd_lint_sources.proofs.rewriting.source.rewrite_all.Given as goal

-- The answer for the rest is the answer for everything.
abbrev pub invariant-loop-description : goal.invariant-loop-description
invariant-loop-description l =
    AreRewrittenTo l.change l.source l.descriptions (drop l.description-index l.descriptions)
    l.outcomes.items l.bytes.items l.from
