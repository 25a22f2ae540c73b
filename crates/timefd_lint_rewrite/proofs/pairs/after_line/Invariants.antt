use Rattle.std.proofs.Common.{◌≡◌, length}
use Rattle.std.specs.Io.BufRead.{drop_through}
use Rattle.timefd_lint_rewrite.proofs.pairs.after_line.Given as goal

-- The answer for the rest is the answer for everything.
abbrev pub invariant-bytes : goal.invariant-bytes
invariant-bytes l = drop_through 10 l.rest ≡ drop_through 10 l.fn.text

abbrev pub decreases-bytes : goal.decreases-bytes
decreases-bytes l = length l.rest
