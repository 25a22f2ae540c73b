-- When a run says that a read or a write has failed.
use Rattle.std.specs.Prelude.{ℕ, ◌≡◌, ◌<◌, ◌≤◌, Bool, false, IsTrue, ⊤}
use Rattle.timefd_format.specs.declared.end.RunOutcome.{RunOutcome}
use Rattle.timefd_format.specs.declared.end.RunOutcome.TheVariants as ends
use Rattle.timefd_format.specs.declared.fast.take.BatchTaken.{BatchTaken}
use Rattle.timefd_format.specs.declared.fast.take.BatchTaken.TheVariants as takes
use Rattle.timefd_format.specs.declared.lines.LineRead.{LineRead}
use Rattle.timefd_format.specs.declared.lines.LineRead.TheVariants as reads
use Rattle.timefd_format.specs.declared.lines.NextLine.{NextLine}
use Rattle.timefd_format.specs.declared.lines.NextLine.TheVariants as nexts
use Rattle.timefd_format.specs.declared.next_record.NextRecords.{NextRecords}
use Rattle.timefd_format.specs.declared.next_record.NextRecords.TheVariants as nextrecords
use Rattle.timefd_format.specs.declared.outcome.WordTally.{WordTally}
use Rattle.timefd_format.specs.declared.records.RecordRead.{RecordRead}
use Rattle.timefd_format.specs.declared.records.RecordRead.TheVariants as records

-- What a source is after a line was read: it allows fewer calls, so it has an end. A read is said to have failed
-- only if the source has.
abbrev pub IsSourceAfterLine : ℕ → ℕ → Bool → LineRead → Type 0
IsSourceAfterLine old new failed reads.Line = new < old
IsSourceAfterLine old new failed reads.End = new < old
IsSourceAfterLine old new failed reads.Failed = IsTrue failed

-- The same of a batch. If no line is taken, there may have been no call.
abbrev pub IsSourceAfterBatch : ℕ → ℕ → Bool → BatchTaken → Type 0
IsSourceAfterBatch old new failed (takes.Lines n) = new < old
IsSourceAfterBatch old new failed takes.Nothing = new ≤ old
IsSourceAfterBatch old new failed takes.End = ⊤
IsSourceAfterBatch old new failed takes.Failed = IsTrue failed

-- The same of the next lines. A line that was looked at is no failed read.
abbrev pub IsSourceAfterNext : ℕ → ℕ → Bool → NextLine → Type 0
IsSourceAfterNext old new failed (nexts.Lines n) = new < old
IsSourceAfterNext old new failed (nexts.Line tally) = (new < old) × (tally.has_failed ≡ false)
IsSourceAfterNext old new failed nexts.End = ⊤
IsSourceAfterNext old new failed nexts.Failed = IsTrue failed

-- The same of a record.
abbrev pub IsSourceAfterRecord : ℕ → ℕ → Bool → RecordRead → Type 0
IsSourceAfterRecord old new failed (records.Record n) = new < old
IsSourceAfterRecord old new failed records.Open = new < old
IsSourceAfterRecord old new failed records.End = ⊤
IsSourceAfterRecord old new failed records.Failed = IsTrue failed

-- The same of the next records.
abbrev pub IsSourceAfterRecords : ℕ → ℕ → Bool → NextRecords → Type 0
IsSourceAfterRecords old new failed (nextrecords.Batch n) = new < old
IsSourceAfterRecords old new failed (nextrecords.Record tally lines) = (new < old) × (tally.has_failed ≡ false)
IsSourceAfterRecords old new failed nextrecords.End = ⊤
IsSourceAfterRecords old new failed nextrecords.Failed = IsTrue failed

-- The input counts as unread only if it has failed.
abbrev pub IsUnreadOnlyIf : Bool → WordTally → Type 0
IsUnreadOnlyIf failed tally = IsTrue tally.has_failed → IsTrue failed

abbrev pub IsUnreadEndOnlyIf : Bool → RunOutcome → Type 0
IsUnreadEndOnlyIf failed ends.Refused = ⊤
IsUnreadEndOnlyIf failed (ends.Done warned tally) = IsUnreadOnlyIf failed tally
