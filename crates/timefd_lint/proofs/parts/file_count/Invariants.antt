use Rattle.std.proofs.Common.{◌≡◌, length}
use Rattle.timefd_lint.specs.Parts.{count_from, file_count}
use Rattle.timefd_lint.proofs.parts.file_count.Given as goal

-- The remaining parts decide.
abbrev pub invariant-parts : goal.invariant-parts
invariant-parts l = count_from l.count l.rest ≡ file_count l.fn.parts

abbrev pub decreases-parts : goal.decreases-parts
decreases-parts l = length l.rest
