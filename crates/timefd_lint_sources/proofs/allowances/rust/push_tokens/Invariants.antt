use Rattle.std.proofs.Common.{◌≡◌, ◌++◌, length}
use Rattle.timefd_lint_sources.specs.Allowances.Found as spec
use Rattle.timefd_lint_sources.proofs.allowances.rust.push_tokens.Given as goal

-- What is allowed so far, followed by what the rest allows, is all.
abbrev pub invariant-tokens : goal.invariant-tokens
invariant-tokens l =
    l.found.items ++ spec.in_tokens l.source l.left ≡ l.fn.found.items ++ spec.in_tokens l.source l.pieces

abbrev pub decreases-tokens : goal.decreases-tokens
decreases-tokens l = length l.left
