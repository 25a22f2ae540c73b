use Rattle.std.proofs.Common.{rules, arith}
use Rattle.timefd_lint_sources.proofs.RewritingLemmas.SourceLemmas.{one_more, stands_at}
use Rattle.timefd_lint_sources.proofs.rewriting.source.rewrite_all.Goals as goal

pub loop-description-preserved : goal.loop-description-preserved
loop-description-preserved c =
    one_more c.args.change c.args.source.now c.args.descriptions.now c.loop-description.description-index
    c.description-item.result c.description-item.result c.loop-description.outcomes.items
    c.push_rewritten.new.outcomes.items c.loop-description.bytes.items c.push_rewritten.new.bytes.items
    c.loop-description.from c.in_ok-from.from
    (first_of (search rules, omega (arith, c.loop-description-test.true)))
    c.description-item.is
    (stands_at c.args.source.now c.args.descriptions.now c.loop-description.description-index
    c.description-item.result c.description-item.result
    (first_of (search rules, omega (arith, c.loop-description-test.true)))
    c.description-item.is c.requires.stand)
    c.loop-description.invariant c.in_ok-from.ensures
