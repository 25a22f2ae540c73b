use Rattle.std.proofs.Common.{length, IsUtf8}
use Rattle.std.specs.Prelude.{string_bytes}
use Rattle.timefd_lint_sources.proofs.RewritingLemmas.AsideLemmas.{AreSoFar}
use Rattle.timefd_lint_sources.proofs.rewriting.item.nests_converted.Given as goal

-- What is converted so far comes before what the rest becomes.
abbrev pub invariant-nested : goal.invariant-nested
invariant-nested l = record {
  text : IsUtf8 l.left;
  so_far : AreSoFar l.version l.layout l.text l.left (string_bytes l.new);
}

abbrev pub decreases-nested : goal.decreases-nested
decreases-nested l = length l.left
