use Rattle.std.proofs.Common.{drop, string_bytes}
use Rattle.timefd_lint.proofs.ValueNoteLemmas.{AreLimitsTo}
use Rattle.timefd_lint.proofs.value_notes.limits_of_values.Given as goal

abbrev pub invariant-loop-value : goal.invariant-loop-value
invariant-loop-value l =
    AreLimitsTo l.change (string_bytes l.file) l.source l.values (drop l.value-index l.values) (string_bytes l.notes)
