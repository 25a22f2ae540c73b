use Rattle.std.proofs.Common.{◌≡◌, ◌++◌, length}
use Rattle.timefd_lint_scan.specs.Keys.Keys as borrowed
use Rattle.timefd_lint_options.specs.Config.Config.{named_all}
use Rattle.timefd_lint_options.proofs.config.borrowed.with_keys.Given as goal

-- The remaining keys follow.
abbrev pub invariant-keys : goal.invariant-keys
invariant-keys l =
    borrowed.named_all l.keys.items ++ named_all l.rest ≡ borrowed.named_all l.fn.keys.items ++ named_all l.fn.more

abbrev pub decreases-keys : goal.decreases-keys
decreases-keys l = length l.rest
