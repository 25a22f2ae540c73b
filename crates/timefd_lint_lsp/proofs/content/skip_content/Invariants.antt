use Rattle.std.proofs.Common.{◌≡◌, ◌-◌, ◌≤◌, List, ℕ, length}
use Rattle.std.specs.Io.KnownBytes.{Consumes}
use Rattle.timefd_lint_lsp.proofs.content.skip_content.Given as goal

-- This many bytes were read from the source.
abbrev pub invariant-pieces : goal.invariant-pieces
invariant-pieces g l = record {
  room : length l.piece ≡ 8192;
  most : l.passed ≤ l.wanted;
  read : (content : List ℕ) × (length content ≡ l.passed)
      × Consumes (g.R.Source.remaining l.fn.source) (g.R.Source.remaining l.source) content;
}

abbrev pub decreases-pieces : goal.decreases-pieces
decreases-pieces g l = l.wanted - l.passed
