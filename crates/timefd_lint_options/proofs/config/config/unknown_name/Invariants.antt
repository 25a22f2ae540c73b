use Rattle.std.proofs.Common.{◌≡◌}
use Rattle.toml.specs.View.{members_view}
use Rattle.timefd_lint_options.specs.Config.Config.{unknown_name}
use Rattle.timefd_lint_options.proofs.config.config.unknown_name.Given as goal

-- The remaining names decide.
abbrev pub invariant-names : goal.invariant-names
invariant-names l =
    (goal.iterator-names).can_next l.name-iterator ×
    (goal.iterator-names).is_finite l.name-iterator ×
    (unknown_name (members_view l.name-iterator) ≡ unknown_name (members_view l.document.entries))
