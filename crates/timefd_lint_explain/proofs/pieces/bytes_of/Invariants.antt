use Rattle.std.proofs.Common.{◌≡◌, ◌+◌, drop}
use Rattle.timefd_lang_node_list.specs.Nodes.{kept_bytes}
use Rattle.timefd_lint_explain.proofs.ShownLemmas.{sum}
use Rattle.timefd_lint_explain.proofs.pieces.bytes_of.Given as goal

-- The bytes so far and those of the pieces that are left make the sum.
abbrev pub invariant-pieces : goal.invariant-pieces
invariant-pieces l = record {
  capped : l.bytes ≡ kept_bytes l.bytes;
  all : kept_bytes (l.bytes + sum (drop l.at l.pieces)) ≡ kept_bytes (sum l.pieces);
}
