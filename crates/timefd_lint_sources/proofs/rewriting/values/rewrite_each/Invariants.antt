use Rattle.std.proofs.Common.{drop}
use Rattle.timefd_lint_sources.proofs.RewritingLemmas.ValueLemmas.{AreRewrittenTo}
use Rattle.timefd_lint_sources.proofs.rewriting.values.rewrite_each.Given as goal

-- The answer for the rest is the answer for everything.
abbrev pub invariant-loop-value : goal.invariant-loop-value
invariant-loop-value l =
    AreRewrittenTo l.change l.format l.source l.values (drop l.value-index l.values) l.outcomes.items l.bytes.items l.from
