use Rattle.std.proofs.Common.{◌∙◌, ap}
use Rattle.std.specs.Option.{unwrap_or}
use Rattle.timefd_lint_scan.proofs.BlockLemmas.{last_is}
use Rattle.timefd_lint_scan.proofs.blocks.last_or.Goals as goal

pub returns : goal.returns
returns c = λ st same.
    c.unwrap_or.ensures
    ∙ (ap (λ o. unwrap_or o c.args.other) (c.copied.ensures ∙ c.last.ensures.value)
    ∙ last_is c.args.positions.now st c.args.other same)
