use Rattle.std.proofs.Common.{◌≡◌, length}
use Rattle.timefd_lint_scan.specs.Looks as spec
use Rattle.timefd_lint_scan.proofs.look.has_word.Given as goal

-- The answer for the rest is the answer for everything.
abbrev pub invariant-tokens : goal.invariant-tokens
invariant-tokens l = spec.has_word l.source l.word l.rest ≡ spec.has_word l.source l.word l.pieces

abbrev pub decreases-tokens : goal.decreases-tokens
decreases-tokens l = length l.rest
