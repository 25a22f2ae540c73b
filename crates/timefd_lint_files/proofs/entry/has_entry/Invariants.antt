use Rattle.std.proofs.Common.{◌≡◌, drop}
use Rattle.timefd_lint_files.specs.Entries.{has_entry}
use Rattle.timefd_lint_files.proofs.entry.has_entry.Given as goal

-- The remaining entries decide.
abbrev pub invariant-loop-entry : goal.invariant-loop-entry
invariant-loop-entry l =
    has_entry l.kind l.name (drop l.entry-index l.entries) ≡ has_entry l.fn.kind l.fn.name l.fn.entries
