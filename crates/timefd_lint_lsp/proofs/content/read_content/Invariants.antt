use Rattle.std.proofs.Common.{◌≡◌, ◌-◌, ◌≤◌, length}
use Rattle.std.specs.Io.KnownBytes.{Consumes}
use Rattle.timefd_lint_lsp.proofs.content.read_content.Given as goal

-- The list has what was read from the source.
abbrev pub invariant-pieces : goal.invariant-pieces
invariant-pieces g l = record {
  room : length l.piece ≡ 8192;
  read : Consumes (g.R.Source.remaining l.fn.source) (g.R.Source.remaining l.source) l.content.items;
  most : length l.content.items ≤ l.wanted;
}

abbrev pub decreases-pieces : goal.decreases-pieces
decreases-pieces g l = l.wanted - l.content.len
