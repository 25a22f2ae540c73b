use Rattle.std.proofs.Common.{length}
use Rattle.timefd_lint_files.proofs.IgnoreFileLemmas.{GoesOn}
use Rattle.timefd_lint_files.proofs.ignore_file.patterns_of.Given as goal

abbrev pub invariant-lines : goal.invariant-lines
invariant-lines l = GoesOn l.fn.text l.patterns.items l.rest

abbrev pub decreases-lines : goal.decreases-lines
decreases-lines l = length l.rest
