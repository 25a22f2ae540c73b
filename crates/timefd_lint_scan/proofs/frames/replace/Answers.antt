use Rattle.std.proofs.Common.{◌∙◌, sym}
use Rattle.timefd_lint_scan.proofs.FrameLemmas.{unchanged}
use Rattle.timefd_lint_scan.proofs.frames.replace.Goals as goal

pub returns-then-not-may_change : goal.returns-then-not-may_change
returns-then-not-may_change c =
    unchanged c.args.source.now c.args.pieces.now c.args.uses.list.now c.args.index c.args.frames.now.items
    (sym c.may_change.ensures ∙ c.if-not-may_change.true)
