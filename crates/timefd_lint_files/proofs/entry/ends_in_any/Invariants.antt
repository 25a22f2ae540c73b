use Rattle.std.proofs.Common.{◌≡◌, drop}
use Rattle.timefd_lint_files.specs.Entries.{is_source}
use Rattle.timefd_lint_files.proofs.entry.ends_in_any.Given as goal

-- The remaining endings decide.
abbrev pub invariant-loop-ending : goal.invariant-loop-ending
invariant-loop-ending l =
    is_source (drop l.ending-index l.endings) l.name ≡ is_source l.fn.endings l.fn.name
