use Rattle.std.proofs.Common.{length}
use Rattle.timefd_lint_files.specs.declared.walk_error.WalkError.{WalkError}
use Rattle.timefd_lint_files.specs.Groups.{IsFoundFor, IsUnreadFor}
use Rattle.timefd_lint_files.proofs.GroupLemmas.{AreGroupsTo}
use Rattle.timefd_lint_files.proofs.OneOfLemmas.{IsOneTo}
use Rattle.timefd_lint_files.proofs.groups.all_groups.Given as goal

-- The groups of the remaining names are still to come.
abbrev pub invariant-groups : goal.invariant-groups
invariant-groups g l = record {
  so_far : AreGroupsTo (IsFoundFor (g.S.FileSystem.holds l.system) (g.S.FileSystem.fails l.system)
      (g.S.FileSystem.folders l.system) l.file l.here) l.fn.names l.rest l.groups.items;
  unread : (error : WalkError) → IsOneTo (λ name. IsUnreadFor (g.S.FileSystem.fails l.system)
      (g.S.FileSystem.folders l.system) l.file l.here name.now error) l.fn.names l.rest;
}

abbrev pub decreases-groups : goal.decreases-groups
decreases-groups g l = length l.rest
