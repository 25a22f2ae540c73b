use Rattle.std.proofs.Common.{length}
use Rattle.std.specs.Prelude.{String}
use Rattle.std.specs.declared.alloc.Global.{Global}
use Rattle.timefd_lint_files.proofs.OneOfLemmas.{IsOneTo}
use Rattle.timefd_lint.specs.declared.config.ConfigFailure.TheVariants.{Wrong}
use Rattle.timefd_lint.specs.Unusable.{IsWrongIn}
use Rattle.timefd_lint.proofs.ProjectLemmas.{AreNamedTo}
use Rattle.timefd_lint.proofs.projects.named_by.Given as goal

-- What is found for the remaining groups is still to come.
abbrev pub invariant-groups : goal.invariant-groups
invariant-groups l = record {
  so_far : AreNamedTo l.here l.fn.groups l.rest l.all.items;
  wrong : (sentence : String Global) → IsOneTo (λ group. IsWrongIn group.found (Wrong sentence)) l.fn.groups l.rest;
}

abbrev pub decreases-groups : goal.decreases-groups
decreases-groups l = length l.rest
