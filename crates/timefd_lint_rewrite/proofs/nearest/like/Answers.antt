use Rattle.std.proofs.Common.{subst}
use Rattle.timefd_lint_rewrite.specs.Layouts.{ReadsAs}
use Rattle.timefd_lint_rewrite.proofs.nearest.like.Goals as goal

pub returns-then-branch : goal.returns-then-branch
returns-then-branch c =
    subst (ReadsAs c.args.rewritten.now) c.deref.ensures (c.in_ok-reads_as.ensures c.if-branch.true)
