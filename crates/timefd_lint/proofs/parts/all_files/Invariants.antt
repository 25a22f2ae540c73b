use Rattle.std.proofs.Common.{◌≡◌, ◌++◌, length}
use Rattle.timefd_lint_diagnosis.specs.Words.{texts}
use Rattle.timefd_lint.specs.Parts.{all_files}
use Rattle.timefd_lint.proofs.parts.all_files.Given as goal

-- The files of the remaining parts follow.
abbrev pub invariant-parts : goal.invariant-parts
invariant-parts l = texts l.all.items ++ all_files l.rest ≡ all_files l.fn.parts

abbrev pub decreases-parts : goal.decreases-parts
decreases-parts l = length l.rest
