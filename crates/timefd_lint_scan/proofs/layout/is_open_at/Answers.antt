use Rattle.std.proofs.Common.{arith, subst}
use Rattle.std.proofs.lemmas.Bool.Decides.{nat_tests}
use Rattle.std.specs.List.{Contains}
use Rattle.timefd_lint_scan.proofs.BlockLemmas.{open_up_to}
use Rattle.timefd_lint_scan.proofs.layout.is_open_at.Goals as goal

pub returns-in-Some : goal.returns-in-Some
returns-in-Some c = λ early.
    open_up_to c.args.source.now c.args.pieces.now c.args.layout.now.ends.items c.in-Some.end c.args.index c.args.position c.requires.ends
    (subst (λ l. Contains l c.in-Some.end) c.deref.ensures.value c.in-Some.ensures.among) c.in-Some.ensures.token
    (grind (arith, nat_tests, early))
