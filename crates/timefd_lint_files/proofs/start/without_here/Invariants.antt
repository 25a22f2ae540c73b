use Rattle.std.proofs.Common.{◌≡◌, length}
use denote.Text.{Utf8}
use denote.Shadow.{shadow}
use Rattle.timefd_lint_files.specs.Starts.{without_here}
use Rattle.timefd_lint_files.proofs.start.without_here.Given as goal

-- The remaining name decides.
abbrev pub invariant-names : goal.invariant-names
invariant-names l = shadow (Utf8 l.rest) × (without_here l.rest ≡ without_here l.fn.name)

abbrev pub decreases-names : goal.decreases-names
decreases-names l = length l.rest
