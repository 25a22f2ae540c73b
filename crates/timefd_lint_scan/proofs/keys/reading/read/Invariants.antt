use Rattle.std.proofs.Common.{length}
use Rattle.timefd_lint_scan.proofs.KeysLemmas.ReadingLemmas.{Left}
use Rattle.timefd_lint_scan.proofs.keys.reading.read.Given as goal

-- The answer for the rest is the answer for everything.
abbrev pub invariant-parts : goal.invariant-parts
invariant-parts l = Left l.style l.end l.text.items l.positions.items l.rest l.fn.all

abbrev pub decreases-parts : goal.decreases-parts
decreases-parts l = length l.rest
