use Rattle.std.proofs.Common.{◌-◌, length}
use Rattle.timefd_lint_scan.specs.Uses.{AreUnused}
use Rattle.timefd_lint_scan.proofs.uses.first_use.Given as goal

abbrev pub invariant-uses : goal.invariant-uses
invariant-uses l = AreUnused l.source l.pieces l.declared l.index l.uses.list.now

abbrev pub decreases-uses : goal.decreases-uses
decreases-uses l = length l.uses.list.now - l.index
