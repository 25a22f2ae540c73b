use Rattle.std.proofs.Common.{◌≡◌}
use Rattle.toml.specs.View.{members_view}
use Rattle.timefd_lint_options.specs.Config.Config.{keys_in, named_all}
use Rattle.timefd_lint_options.proofs.ConfigLemmas.ConfigLemmas.{after}
use Rattle.timefd_lint_options.proofs.config.keys.keys_in.Given as goal

-- The keys so far, followed by those of the remaining entries.
abbrev pub invariant-keys : goal.invariant-keys
invariant-keys l =
    (goal.iterator-keys).can_next l.name-iterator ×
    (goal.iterator-keys).is_finite l.name-iterator ×
    (after (named_all l.keys.items) (keys_in (members_view l.name-iterator)) ≡ keys_in (members_view l.table.entries))
