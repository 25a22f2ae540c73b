use Rattle.std.proofs.Common.{◌≡◌, length}
use Rattle.timefd_lint_options.specs.Config.Levels.{over}
use Rattle.timefd_lint_options.proofs.ConfigLemmas.LevelLemmas.{chosen_among}
use Rattle.timefd_lint_options.proofs.config.over.over.Given as goal

-- The remaining warnings decide the rest.
abbrev pub invariant-warnings : goal.invariant-warnings
invariant-warnings l = chosen_among l.fn.own l.fn.file l.levels l.left ≡ over l.fn.own l.fn.file

abbrev pub decreases-warnings : goal.decreases-warnings
decreases-warnings l = length l.left
