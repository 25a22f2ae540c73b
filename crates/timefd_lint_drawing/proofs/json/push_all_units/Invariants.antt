use Rattle.std.proofs.Common.{◌≡◌, ◌++◌, flat_map, drop}
use Rattle.timefd_lint_drawing.specs.Json.{unit}
use Rattle.timefd_lint_drawing.proofs.json.push_all_units.Given as goal

abbrev pub invariant-loop-unit : goal.invariant-loop-unit
invariant-loop-unit l = l.out.items ++ flat_map unit (drop l.unit-index l.units) ≡ l.fn.out.items
    ++ flat_map unit l.units
