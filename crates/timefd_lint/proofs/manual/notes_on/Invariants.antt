use Rattle.std.proofs.Common.{string_bytes}
use Rattle.timefd_lint.proofs.ManualLemmas.{AreNotedTo}
use Rattle.timefd_lint.proofs.manual.notes_on.Given as goal

-- The descriptions up to the index have their notes.
abbrev pub invariant-each : goal.invariant-each
invariant-each l =
    AreNotedTo l.change l.version l.name l.source l.descriptions l.outcomes l.index (string_bytes l.notes)
