use Rattle.timefd_lint_scan.proofs.aliases.steps_back.Given as goal

abbrev pub decreases-steps : goal.decreases-steps
decreases-steps l = l.index
