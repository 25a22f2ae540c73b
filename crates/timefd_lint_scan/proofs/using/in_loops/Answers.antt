use Rattle.std.proofs.Common.{◌∙◌, ◌++◌, ap, rules, arith}
use Rattle.std.specs.Option.{option_to_list}
use Rattle.timefd_lint_scan.proofs.UsingLemmas.{last_loop, no_piece, one_more_loop}
use Rattle.timefd_lint_scan.proofs.using.in_loops.Goals as goal

pub loop-index-preserved : goal.loop-index-preserved
loop-index-preserved c =
    one_more_loop c.args.source.now c.args.pieces.now c.args.uses.list.now c.loop-index.index no_piece c.loop-index.lists.items
    c.push_any.new.uses.items
    (first_of (search rules, omega (arith, c.loop-index-test.true)))
    (c.in_ok-push_any.ensures ∙ ap (λ u. c.loop-index.lists.items ++ option_to_list u) c.loop_at.ensures)
    c.loop-index.invariant

pub returns : goal.returns
returns c =
    last_loop c.args.source.now c.args.pieces.now c.args.uses.list.now c.loop-index.index c.loop-index.lists.items
    (first_of (search rules, omega (arith, c.loop-index-test.false))) c.loop-index.invariant
