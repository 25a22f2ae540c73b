use Rattle.std.proofs.Common.{Some, string_bytes}
use Rattle.timefd_lint.proofs.LimitedLemmas.{NotedUpTo}
use Rattle.timefd_lint.proofs.limited.limit_notes.Given as goal

-- The lines that were read are noted, and there was one step for each of them.
abbrev pub invariant-lines : goal.invariant-lines
invariant-lines l =
    NotedUpTo l.comment l.dialect (string_bytes l.file) l.bytes (Some l.reader) l.index (string_bytes l.notes)
