use Rattle.std.proofs.Common.{◌≡◌, ◌∷◌, flat_map}
use Rattle.timefd_lint_sources.specs.Judgements.{unless_item}
use Rattle.timefd_lint_sources.proofs.judging.all_from.Given as goal

abbrev pub invariant-loop-diagnostic : goal.invariant-loop-diagnostic
invariant-loop-diagnostic l = l.faults.items ≡ l.fn.first ∷ flat_map (unless_item l.items) l.yielded
