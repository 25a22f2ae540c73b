use Rattle.std.proofs.Common.{length}
use Rattle.timefd_lint_files.specs.declared.walk_error.WalkError.{WalkError}
use Rattle.timefd_lint_files.specs.Groups.{HaveSame, IsFoundFor, IsUnreadFor, site_any}
use Rattle.timefd_lint_files.proofs.OneOfLemmas.{IsOneTo}
use Rattle.timefd_lint_files.proofs.groups.left_after.Given as goal

-- The names so far have the same.
abbrev pub invariant-names : goal.invariant-names
invariant-names g l = record {
  same : HaveSame (IsFoundFor (g.S.FileSystem.holds l.system) (g.S.FileSystem.fails l.system)
      (g.S.FileSystem.folders l.system) l.file l.here) (site_any l.found) l.fn.names l.rest;
  unread : (error : WalkError) → IsOneTo (λ name. IsUnreadFor (g.S.FileSystem.fails l.system)
      (g.S.FileSystem.folders l.system) l.file l.here name.now error) l.fn.names l.rest;
}

abbrev pub decreases-names : goal.decreases-names
decreases-names g l = length l.rest
