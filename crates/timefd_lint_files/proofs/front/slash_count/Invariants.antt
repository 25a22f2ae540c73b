use Rattle.std.proofs.Common.{◌≡◌, ◌≤◌, ◌+◌, drop}
use Rattle.timefd_lint_files.specs.Around.{slash_count}
use Rattle.timefd_lint_files.proofs.front.slash_count.Given as goal

-- Those so far, and those of the rest.
abbrev pub invariant-loop-byte : goal.invariant-loop-byte
invariant-loop-byte l = record {
  so_far : l.count + slash_count (drop l.byte-index l.text) ≡ slash_count l.fn.text;
  few : l.count ≤ l.byte-index;
}
