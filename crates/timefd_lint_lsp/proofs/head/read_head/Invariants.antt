use Rattle.std.proofs.Common.{◌-◌, ◌≤◌, length}
use Rattle.std.specs.Io.KnownBytes.{Consumes}
use Rattle.timefd_lint_lsp.specs.Heads.{IsOpen}
use Rattle.timefd_lint_lsp.proofs.head.read_head.Given as goal

-- The list has what was read from the source, and doesn't end a head.
abbrev pub invariant-bytes : goal.invariant-bytes
invariant-bytes g l = record {
  read : Consumes (g.R.Source.remaining l.fn.source) (g.R.Source.remaining l.source) l.bytes.items;
  still_open : IsOpen l.bytes.items;
  most : length l.bytes.items ≤ 4096;
}

abbrev pub decreases-bytes : goal.decreases-bytes
decreases-bytes g l = 4096 - l.bytes.len
