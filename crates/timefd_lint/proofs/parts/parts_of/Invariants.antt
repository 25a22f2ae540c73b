use Rattle.std.proofs.Common.{length}
use Rattle.timefd_lint_files.specs.declared.walk_error.WalkError.{WalkError}
use Rattle.timefd_lint_files.proofs.OneOfLemmas.{IsOneTo}
use Rattle.timefd_lint.specs.Parts.{IsUnwalked}
use Rattle.timefd_lint.proofs.PartLemmas.{ArePartsTo}
use Rattle.timefd_lint.proofs.parts.parts_of.Given as goal

-- The parts of the remaining names are still to come.
abbrev pub invariant-projects : goal.invariant-projects
invariant-projects g l = record {
  so_far : ArePartsTo (g.S.FileSystem.lists l.system) (g.S.FileSystem.holds l.system)
      (g.S.FileSystem.folders l.system) l.settings l.keys l.fn.projects l.rest l.parts.items;
  unwalked : (error : WalkError) → IsOneTo (λ named. IsUnwalked (g.S.FileSystem.fails l.system) named error)
      l.fn.projects l.rest;
}

abbrev pub decreases-projects : goal.decreases-projects
decreases-projects g l = length l.rest
