use Rattle.std.proofs.Common.{◌≡◌, ◌++◌, flat_map}
use Rattle.timefd_lint_drawing.specs.Json.{escaped}
use Rattle.timefd_lint_drawing.proofs.json.push_all_escaped.Given as goal

abbrev pub invariant-loop-c : goal.invariant-loop-c
invariant-loop-c l = l.out.items ≡ l.fn.out.items ++ flat_map escaped l.yielded
