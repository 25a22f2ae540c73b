use Rattle.std.proofs.Common.{◌≡◌, ◌++◌, drop, string_bytes}
use Rattle.timefd_lint.specs.ValueNotes.{unwritable_in}
use Rattle.timefd_lint.proofs.value_notes.unwritable.Given as goal

-- The notes so far, followed by those on the values that are left, are all notes.
abbrev pub invariant-values : goal.invariant-values
invariant-values l =
    string_bytes l.notes ++ unwritable_in (string_bytes l.file) l.source (drop l.at l.values) (drop l.at l.outcomes)
    ≡ unwritable_in (string_bytes l.file) l.source l.values l.outcomes
