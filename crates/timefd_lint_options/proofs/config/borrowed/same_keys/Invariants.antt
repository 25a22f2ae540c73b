use Rattle.std.proofs.Common.{◌≡◌, ◌++◌, length}
use Rattle.timefd_lint_scan.specs.Keys.Keys.{named_all}
use Rattle.timefd_lint_options.proofs.config.borrowed.same_keys.Given as goal

-- The remaining keys follow.
abbrev pub invariant-keys : goal.invariant-keys
invariant-keys l = named_all l.same.items ++ named_all l.rest ≡ named_all l.fn.keys

abbrev pub decreases-keys : goal.decreases-keys
decreases-keys l = length l.rest
