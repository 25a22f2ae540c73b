use Rattle.std.proofs.Common.{take}
use Rattle.timefd_lint_diagnosis.specs.Nearest.{IsSoFar}
use Rattle.timefd_lint_diagnosis.specs.Words.{texts}
use Rattle.timefd_lint_diagnosis.proofs.nearest.best_of_all.Given as goal

abbrev pub invariant-loop-candidate : goal.invariant-loop-candidate
invariant-loop-candidate l =
    IsSoFar (texts (take l.candidate-index l.words)) l.word l.best.edits l.best.found
