use Rattle.std.proofs.Common.{◌≡◌, length}
use Rattle.timefd_lint_files.specs.Walks.{is_out, is_out_from}
use Rattle.timefd_lint_files.proofs.names.is_out.Given as goal

-- The remaining bytes decide.
abbrev pub invariant-bytes : goal.invariant-bytes
invariant-bytes l = is_out_from l.fn.excluded l.fn.path l.rest ≡ is_out l.fn.excluded l.fn.path

abbrev pub decreases-bytes : goal.decreases-bytes
decreases-bytes l = length l.rest
