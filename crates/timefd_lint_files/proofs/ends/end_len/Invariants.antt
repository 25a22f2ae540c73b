use Rattle.std.proofs.Common.{length, ◌-◌}
use Rattle.timefd_lint_files.specs.Ends.{EndsAlike}
use Rattle.timefd_lint_files.proofs.ends.end_len.Given as goal

abbrev pub invariant-bytes : goal.invariant-bytes
invariant-bytes l = EndsAlike l.tokens l.path l.count

abbrev pub decreases-bytes : goal.decreases-bytes
decreases-bytes l = length l.tokens - l.count
