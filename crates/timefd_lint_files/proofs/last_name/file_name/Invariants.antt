use Rattle.std.proofs.Common.{◌≡◌, ◌≤◌, false, length, drop}
use Rattle.timefd_lint_files.specs.Lines.{has_slash}
use Rattle.timefd_lint_files.proofs.last_name.file_name.Given as goal

-- There is no slash from this position on.
abbrev pub invariant-bytes : goal.invariant-bytes
invariant-bytes l = record {
  within : l.from ≤ length l.path;
  none : has_slash (drop l.from l.path) ≡ false;
}

abbrev pub decreases-bytes : goal.decreases-bytes
decreases-bytes l = l.from
