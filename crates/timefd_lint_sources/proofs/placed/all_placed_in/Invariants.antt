use Rattle.std.proofs.Common.{◌≡◌, map}
use Rattle.timefd_lint_sources.specs.Whole.{placed_in}
use Rattle.timefd_lint_sources.proofs.placed.all_placed_in.Given as goal

abbrev pub invariant-loop-diagnostic : goal.invariant-loop-diagnostic
invariant-loop-diagnostic l = l.placed.items ≡ map (placed_in l.description) l.yielded
