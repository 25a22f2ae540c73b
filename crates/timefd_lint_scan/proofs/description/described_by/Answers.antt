use Rattle.std.proofs.Common.{◌∙◌, ap, rules, arith}
use Rattle.timefd_lint_scan.proofs.CandidateLemmas.{at_last, one_more, reported_at_token}
use Rattle.timefd_lint_scan.specs.Frames.{passed}
use Rattle.timefd_lint_scan.proofs.description.described_by.Goals as goal

pub loop-index-preserved : goal.loop-index-preserved
loop-index-preserved c =
    one_more c.args.source.now c.args.pieces.now c.args.aliases.list.now c.args.aliases.own.now c.args.uses.list.now c.args.marks.now c.loop-index.comments.now
    c.still_open-comments.result.now c.loop-index.index _ _ c.loop-index.frames.items c.pass.new.frames.items
    c.candidate_at-candidate.result c.in_ok-found.found c.loop-index.end c.in_ok-end.end
    c.loop-index.descriptions.items c.push_any.new.descriptions.items
    (first_of (search rules, omega (arith, c.loop-index-test.true)))
    (c.placed-piece.ensures ∙ c.index-pieces-index.is)
    (c.in_ok-pass.ensures
    ∙ ap (λ s. passed s c.args.pieces.now c.args.aliases.list.now c.args.aliases.own.now c.args.uses.list.now c.loop-index.index
    c.loop-index.frames.items) c.as_bytes.ensures.value)
    c.still_open-comments.ensures
    (c.candidate_at-candidate.ensures
    ∙ reported_at_token c.args.source.now c.as_bytes-in-loop-index.result.now c.args.pieces.now c.loop-index.index _
    c.pass.new.frames.items c.deref.result.now c.innermost-frame.result c.still_open-comments.result.now
    c.reported_at-dialect.result c.as_bytes-in-loop-index.ensures.value c.deref.ensures.value
    c.innermost-frame.ensures c.reported_at-dialect.ensures)
    c.in_ok-found.ensures c.in_ok-end.ensures.pushed c.in_ok-end.ensures.end
    c.loop-index.invariant

pub returns : goal.returns
returns c =
    at_last c.args.source.now c.args.pieces.now c.args.aliases.list.now c.args.aliases.own.now c.args.uses.list.now c.args.marks.now
    c.loop-index.comments.now c.loop-index.index c.loop-index.frames.items c.loop-index.end c.loop-index.descriptions.items
    (first_of (search rules, omega (arith, c.loop-index-test.false))) c.loop-index.invariant
