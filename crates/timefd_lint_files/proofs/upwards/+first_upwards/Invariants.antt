use Rattle.timefd_lint_files.proofs.upwards.+first_upwards.Given as goal

abbrev pub decreases-first_upwards : goal.decreases-first_upwards
decreases-first_upwards g l = l.above
