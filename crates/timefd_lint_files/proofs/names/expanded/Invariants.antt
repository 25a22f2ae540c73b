use Rattle.std.proofs.Common.{◌≡◌, []}
use Rattle.timefd_lint_files.specs.Walks.{IsKept, IsWalkBut, texts}
use Rattle.timefd_lint_files.proofs.NameLemmas.{NamesGoOn}
use Rattle.timefd_lint_files.proofs.names.expanded.Given as goal

-- The names so far give these, and the walk is inside no folder.
abbrev pub invariant-loop-name : goal.invariant-loop-name
invariant-loop-name g l = record {
  outside : l.walk.ignores.items ≡ [];
  so_far : NamesGoOn (IsWalkBut l.sought.endings.now l.sought.excluded (g.S.FileSystem.lists l.system) (g.S.FileSystem.holds l.system))
      (IsKept l.sought.excluded) (g.S.FileSystem.folders l.system) l.names l.name-index (texts l.walk.names.items);
}
