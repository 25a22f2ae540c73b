use Rattle.std.proofs.Common.{◌≡◌, drop, false}
use Rattle.timefd_lint_files.specs.Classes.{ends_in_colon}
use Rattle.timefd_lint_files.proofs.ranges.ends_in_colon.Given as goal

-- The remaining bytes decide.
abbrev pub invariant-loop-byte : goal.invariant-loop-byte
invariant-loop-byte l =
    ends_in_colon l.is_colon (drop l.byte-index l.text) ≡ ends_in_colon false l.fn.text
