use Rattle.std.proofs.Common.{◌∙◌, ap, rules, arith}
use Rattle.timefd_lint_scan.specs.Frames.{passed}
use Rattle.timefd_lint_scan.proofs.UsingLemmas.{at_last, one_more, used_at}
use Rattle.timefd_lint_scan.proofs.using.in_calls.Goals as goal

pub loop-index-preserved : goal.loop-index-preserved
loop-index-preserved c =
    one_more c.args.source.now c.args.pieces.now c.args.aliases.list.now c.args.aliases.own.now c.loop-index.index _ _
    c.loop-index.frames.items c.pass.new.frames.items c.use_at.result c.loop-index.uses.items
    c.push_any.new.uses.items
    (first_of (search rules, omega (arith, c.loop-index-test.true)))
    (c.placed.ensures ∙ c.index-pieces-index.is)
    (c.in_ok-pass.ensures
    ∙ ap (λ u. passed c.args.source.now c.args.pieces.now c.args.aliases.list.now c.args.aliases.own.now u c.loop-index.index c.loop-index.frames.items)
    c.no_uses-none.ensures.none)
    (c.use_at.ensures
    ∙ used_at c.args.source.now c.args.pieces.now c.loop-index.index _ c.pass.new.frames.items c.deref.result.now
    c.innermost-frame.result c.deref.ensures.value c.innermost-frame.ensures)
    c.in_ok-push_any.ensures
    c.loop-index.invariant

pub returns : goal.returns
returns c =
    at_last c.args.source.now c.args.pieces.now c.args.aliases.list.now c.args.aliases.own.now c.loop-index.index c.loop-index.frames.items
    c.loop-index.uses.items (first_of (search rules, omega (arith, c.loop-index-test.false))) c.loop-index.invariant
