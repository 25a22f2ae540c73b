use Rattle.std.proofs.Common.{◌≡◌, ◌+◌, drop}
use Rattle.timefd_lint_files.specs.IgnoreFiles.{line_len}
use Rattle.timefd_lint_files.proofs.ignore_file.line_len.Given as goal

-- The rest of the text decides.
abbrev pub invariant-loop-at : goal.invariant-loop-at
invariant-loop-at l = l.at + line_len (drop l.at l.text) ≡ line_len l.fn.text
