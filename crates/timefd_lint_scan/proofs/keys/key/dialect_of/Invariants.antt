use Rattle.std.proofs.Common.{◌≡◌, length}
use Rattle.timefd_lint_scan.specs.Keys.Keys.{dialect_of}
use Rattle.timefd_lint_scan.proofs.keys.key.dialect_of.Given as goal

-- The answer for the rest is the answer for everything.
abbrev pub invariant-keys : goal.invariant-keys
invariant-keys l = dialect_of l.rest l.name ≡ dialect_of l.fn.keys l.name

abbrev pub decreases-keys : goal.decreases-keys
decreases-keys l = length l.rest
