use Rattle.std.proofs.Common.{◌≡◌, ◌++◌, length}
use Rattle.timefd_lint_scan.specs.Bytes.{line_feed}
use Rattle.timefd_lint_sources.specs.Allowances.Keyed as spec
use Rattle.timefd_lint_sources.proofs.allowances.keyed.allowances_of_keys.Given as goal

-- What is allowed so far, followed by what the rest allows, is all.
abbrev pub invariant-bytes : goal.invariant-bytes
invariant-bytes l =
    l.found.items ++ spec.in_lines l.format l.source l.before l.left
    ≡ spec.in_lines l.format l.source line_feed l.source

abbrev pub decreases-bytes : goal.decreases-bytes
decreases-bytes l = length l.left
