use Rattle.std.proofs.Common.{◌≡◌, ◌-◌}
use Rattle.timefd_lint_files.specs.Walks.{Gives, IsWalk, texts}
use Rattle.timefd_lint_files.proofs.WalkLemmas.{GoesOn}
use Rattle.timefd_lint_files.proofs.walk.+walk_folder.Given as goal

-- The entries so far are walked, under the files that apply in the folder.
abbrev pub invariant-entries : goal.invariant-entries
invariant-entries g l =
    let inside = l.initial.walk.ignores.items in record {
      kept : l.walk.ignores.items ≡ inside;
      so_far : GoesOn (Gives l.choice.endings.now l.choice.excluded.now
          (IsWalk l.choice.endings.now l.choice.excluded.now (g.S.FileSystem.lists l.system) (g.S.FileSystem.holds l.system) (l.depth - 1)) inside l.folder)
          l.entries.items l.at (texts l.initial.walk.names.items) (texts l.walk.names.items);
    }

abbrev pub decreases-walk_folder : goal.decreases-walk_folder
decreases-walk_folder g l = l.depth
