use Rattle.std.proofs.Common.{◌≡◌}
use Rattle.toml.specs.View.{members_view}
use Rattle.timefd_lint_options.specs.Config.Levels.{levels_in, with_entries}
use Rattle.timefd_lint_options.proofs.config.levels.levels_in.Given as goal

-- The remaining entries set the rest.
abbrev pub invariant-levels : goal.invariant-levels
invariant-levels l =
    (goal.iterator-levels).can_next l.name-iterator ×
    (goal.iterator-levels).is_finite l.name-iterator ×
    (with_entries l.levels (members_view l.name-iterator) ≡ levels_in (members_view l.table.entries))
