use Rattle.std.proofs.Common.{◌≡◌}
use Rattle.toml.specs.View.{members_view}
use Rattle.timefd_lint_options.specs.Config.Calls.{called_all, calls_in}
use Rattle.timefd_lint_options.proofs.ConfigLemmas.CallLemmas.{after}
use Rattle.timefd_lint_options.proofs.config.calls.calls_in.Given as goal

-- The calls so far, followed by those of the remaining entries.
abbrev pub invariant-calls : goal.invariant-calls
invariant-calls l =
    (goal.iterator-calls).can_next l.key-iterator ×
    (goal.iterator-calls).is_finite l.key-iterator ×
    (after (called_all l.calls.items) (calls_in (members_view l.key-iterator)) ≡ calls_in (members_view l.table.entries))
