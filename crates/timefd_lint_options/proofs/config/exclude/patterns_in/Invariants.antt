use Rattle.std.proofs.Common.{◌≡◌, length, string_bytes}
use Rattle.toml.specs.View.{items_view}
use Rattle.timefd_lint_options.specs.Config.Config.{before, patterns_in}
use Rattle.timefd_lint_options.proofs.config.exclude.patterns_in.Given as goal

-- The lines so far, followed by those of the remaining values.
abbrev pub invariant-values : goal.invariant-values
invariant-values l =
    before (string_bytes l.text) (patterns_in (items_view l.rest)) ≡ patterns_in (items_view l.fn.values)

abbrev pub decreases-values : goal.decreases-values
decreases-values l = length l.rest
