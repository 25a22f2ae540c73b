use Rattle.timefd_lint_sources.specs.Items.{AreJudgedAs}
use Rattle.timefd_lint_sources.proofs.judged.judged_all.Given as goal

abbrev pub invariant-loop-description : goal.invariant-loop-description
invariant-loop-description l = AreJudgedAs l.yielded l.judged.items
