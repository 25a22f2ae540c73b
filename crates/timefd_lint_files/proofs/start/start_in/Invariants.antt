use Rattle.std.proofs.Common.{◌≡◌, length}
use Rattle.timefd_lint_files.specs.Starts.{start_in}
use Rattle.timefd_lint_files.proofs.start.start_in.Given as goal

-- The remaining name decides.
abbrev pub invariant-names : goal.invariant-names
invariant-names l = start_in l.front l.rest ≡ start_in l.fn.front l.fn.name

abbrev pub decreases-names : goal.decreases-names
decreases-names l = length l.rest
