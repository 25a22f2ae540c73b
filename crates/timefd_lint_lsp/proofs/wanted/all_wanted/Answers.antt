use Rattle.std.proofs.Common.{ap, arith, rules, ◌∙◌}
use Rattle.serde_json.specs.View.{items_view}
use Rattle.timefd_lint_lsp.specs.WantedKinds as spec
use Rattle.timefd_lint_lsp.proofs.WantedLemmas.{at_last, one_more}
use Rattle.timefd_lint_lsp.proofs.wanted.all_wanted.Goals as goal

pub loop-kind-preserved : goal.loop-kind-preserved
loop-kind-preserved c =
    one_more c.args.kinds.now c.loop-kind.kind-index c.kind-item.result c.kind-item.result c.loop-kind.wanted
    c.either-wanted.result (spec.all_wanted (items_view c.args.kinds.now))
    (first_of (search rules, omega (arith, c.loop-kind-test.true))) c.kind-item.is
    (c.either-wanted.ensures ∙ ap (spec.either c.loop-kind.wanted) c.wanted_by-more.ensures) c.loop-kind.invariant

pub returns : goal.returns
returns c =
    at_last c.args.kinds.now c.loop-kind.kind-index c.loop-kind.wanted (spec.all_wanted (items_view c.args.kinds.now))
    (first_of (search rules, omega (arith, c.loop-kind-test.false))) c.loop-kind.invariant
