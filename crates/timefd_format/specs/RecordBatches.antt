-- Records that are read and written many at once.
use Rattle.std.specs.Prelude.{ℕ, zero, suc, ◌≡◌, ◌≢◌, ◌≤◌, ◌++◌, List, [], All, codes, length, take, Option, Some, None, Result, Ok, Err}
use Rattle.std.specs.Io.KnownBytes.{Appends, Consumes, IsAtEnd, Keeps}
use Rattle.timefd_lang_component.specs.Tree.{Text}
use Rattle.timefd_date_format.specs.Appends.{IsAppended, IsKept}
use Rattle.timefd_date_format.specs.declared.field.Unshown.{Unshown}
use Rattle.timefd_date_moment.specs.declared.moment.Moment.{Moment}
use Rattle.timefd_parse.specs.declared.parsing.BorrowedOutput.{BorrowedOutput}
use Rattle.timefd_format.specs.declared.fast.batch.Batch.{Batch}
use Rattle.timefd_format.specs.declared.fast.take.BatchTaken.{BatchTaken}
use Rattle.timefd_format.specs.declared.fast.take.BatchTaken.TheVariants as takes
use Rattle.timefd_format.specs.declared.frame.Cell.{Cell}
use Rattle.timefd_format.specs.declared.frame.LineFrame.TheVariants as frames
use Rattle.timefd_format.specs.declared.next_record.NextRecords.{NextRecords}
use Rattle.timefd_format.specs.declared.next_record.NextRecords.TheVariants as next
use Rattle.timefd_format.specs.declared.otherwise.Otherwise.{Otherwise}
use Rattle.timefd_format.specs.declared.outcome.WordTally.{WordTally}
use Rattle.timefd_format.specs.declared.source.MomentSource.{MomentSource}
use Rattle.timefd_format.specs.Fields.{IsCell, text_of}
use Rattle.timefd_format.specs.Frames.{framed}
use Rattle.timefd_format.specs.Records.{IsNextRecord}
use Rattle.timefd_format.specs.Sources.{IsMomentIn}
use Rattle.timefd_format.specs.Tables.{IsRecord}
use Rattle.timefd_format.specs.Written.{written_of}

-- Bytes without a newline or a quote, and a newline. They are a record of one line.
abbrev pub IsPlainRecord : Text → Type 0
IsPlainRecord row = (text : Text) × All (λ b. (b ≢ 10) × (b ≢ 34)) text × (row ≡ text ++ codes "\n")

-- the record of a field, with the text of a moment in place of the field
abbrev pub in_cell : Cell → Result Text Unshown → Result Text Unshown
in_cell cell (Ok text) = Ok (framed (frames.Field cell) text)
in_cell cell (Err u) = Err u

-- The field at this index isn't empty, it names or shows a moment, and this is the record with the text of that
-- moment in its place.
abbrev pub IsRecordShownAs : MomentSource → BorrowedOutput → ℕ → Text → Text → Type 0
IsRecordShownAs source o n row shown = (cell : Cell) × (m : Moment) × IsCell n row cell × (cell.field.now ≢ [])
    × IsMomentIn source o (text_of cell.field.now) (Ok m) × (in_cell cell (written_of m o) ≡ Ok shown)

-- This many records without quotes are read, and what is written are the records with the texts of their
-- moments, one after another.
abbrev pub AreRecordsShown : MomentSource → BorrowedOutput → ℕ → ℕ → Text → Text → Type 0
AreRecordsShown source o n zero read written = (read ≡ []) × (written ≡ [])
AreRecordsShown source o n (suc k) read written = (front : Text) × (row : Text) × (done : Text) × (shown : Text)
    × AreRecordsShown source o n k front done × IsPlainRecord row × IsRecordShownAs source o n row shown
    × (read ≡ front ++ row) × (written ≡ done ++ shown)

-- The record with the text of its moment is appended. If it isn't, only what is in front is promised to be as it
-- was.
abbrev pub TriesToAppendRecord : MomentSource → BorrowedOutput → ℕ → Text → Text → ℕ → Text → Option ℕ → Type 0
TriesToAppendRecord source o n row old at new None = IsKept old at new
TriesToAppendRecord source o n row old at new (Some end) = (shown : Text) × IsRecordShownAs source o n row shown
    × IsAppended shown old at new end

-- The records at the front of a text, and what is written for them at the front of a room. Each is a line.
abbrev pub IsRecordBatch : MomentSource → BorrowedOutput → ℕ → Text → Text → Batch → Type 0
IsRecordBatch source o n text room batch =
    AreRecordsShown source o n batch.line_count (take batch.read text) (take batch.written room)
    × (batch.line_count ≤ batch.read) × (batch.read ≤ length text) × (batch.written ≤ length room)

-- The batch grows. If it doesn't, it stays what it is.
abbrev pub TriesToGrowByRecord : MomentSource → BorrowedOutput → ℕ → Text → Batch → Text → Option Batch → Type 0
TriesToGrowByRecord source o n text batch room None = IsRecordBatch source o n text room batch
TriesToGrowByRecord source o n text batch room (Some more) = IsRecordBatch source o n text room more

-- What taking a batch of records does to what a reader has left and to what is written.
abbrev pub AreRecordsTaken : MomentSource → BorrowedOutput → ℕ → Option Text → Option Text → Option Text → Option Text
    → BatchTaken → Type 0
AreRecordsTaken source o n old new before after (takes.Lines k) = (read : Text) × (written : Text)
    × (1 ≤ k) × AreRecordsShown source o n k read written × Consumes old new read × Appends before after written
AreRecordsTaken source o n old new before after takes.Nothing = (after ≡ before) × Keeps old new
AreRecordsTaken source o n old new before after takes.End = (after ≡ before) × IsAtEnd old
AreRecordsTaken source o n old new before after takes.Failed = after ≡ before

-- What the next records do: those of a batch, or one that is looked at by itself.
abbrev pub IsNextRecords : Otherwise → MomentSource → BorrowedOutput → ℕ → Option Text → Option Text → Option Text
    → Option Text → NextRecords → Type 0
IsNextRecords otherwise source o n old new before after (next.Batch k) = (read : Text) × (written : Text)
    × (1 ≤ k) × AreRecordsShown source o n k read written × Consumes old new read × Appends before after written
IsNextRecords otherwise source o n old new before after (next.Record tally lines) = (row : Text)
    × IsRecord otherwise source o n row before after tally × IsNextRecord old row new
IsNextRecords otherwise source o n old new before after next.End = (after ≡ before) × IsAtEnd old
IsNextRecords otherwise source o n old new before after next.Failed = after ≡ before
