use Rattle.std.proofs.Common.{◌≡◌, drop}
use Rattle.timefd_lint_files.specs.FileNames.{are_within_name}
use Rattle.timefd_lint_files.proofs.last_name.are_within_name.Given as goal

-- The remaining tokens decide.
abbrev pub invariant-loop-token : goal.invariant-loop-token
invariant-loop-token l = are_within_name (drop l.token-index l.tokens) ≡ are_within_name l.fn.tokens
