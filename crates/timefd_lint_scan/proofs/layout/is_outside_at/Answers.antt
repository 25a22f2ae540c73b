use Rattle.std.proofs.Common.{arith, subst}
use Rattle.std.proofs.lemmas.Bool.Decides.{nat_tests}
use Rattle.std.specs.List.{Contains}
use Rattle.timefd_lint_scan.proofs.BeginLemmas.{outside_at}
use Rattle.timefd_lint_scan.proofs.layout.is_outside_at.Goals as goal

pub returns-in-Some : goal.returns-in-Some
returns-in-Some c = λ early.
    outside_at c.args.source.now c.args.pieces.now c.args.layout.now.begins.items c.in-Some.begin c.args.index c.args.from c.requires.begins
    (subst (λ l. Contains l c.in-Some.begin) c.deref.ensures.value c.in-Some.ensures.among) c.in-Some.ensures.token
    (grind (arith, nat_tests, early))
