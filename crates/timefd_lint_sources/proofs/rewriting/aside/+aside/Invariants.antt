use Rattle.std.proofs.Common.{◌+◌, ◌*◌}
use Rattle.timefd_lint_sources.proofs.rewriting.aside.+aside.Given as goal

abbrev pub decreases-converted_within : goal.decreases-converted_within
decreases-converted_within l = 2 * l.most

abbrev pub decreases-one_set_aside : goal.decreases-one_set_aside
decreases-one_set_aside l = 2 * l.most + 1
