use Rattle.std.proofs.Common.{◌≡◌, ◌++◌, drop}
use Rattle.timefd_c.specs.Warnings.{reported_of}
use Rattle.timefd_c.proofs.warnings.reported_of.Given as goal

abbrev pub invariant-loop-warning : goal.invariant-loop-warning
invariant-loop-warning l =
    l.nodes_reported.items ++ reported_of l.found l.len (drop l.warning-index l.warnings)
    ≡ reported_of l.found l.len l.fn.warnings
