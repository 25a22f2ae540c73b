-- What is reported of records that aren't written, and the number of the line that each message has.
use Rattle.std.specs.Prelude.{ℕ, suc, ◌==◌, ◌≡◌, ◌≤◌, ◌⊎◌, Bool, true, false, List, [], ◌∷◌, ◌++◌, Option, Some, None, Result, Ok, Err, if◌then◌else◌, ⊤}
use Rattle.std.specs.Io.Iter.{u64_saturate}
use Rattle.std.specs.Io.KnownBytes.{Consumes, IsAtEnd}
use Rattle.timefd_lang_component.specs.Tree.{Text}
use Rattle.timefd_lint_drawing.specs.People.{for_people}
use Rattle.timefd_parse.specs.Grammar.{is_empty}
use Rattle.timefd_parse.specs.declared.parsing.BorrowedOutput.{BorrowedOutput}
use Rattle.timefd_lint_rewrite.specs.Lines.{without_newline}
use Rattle.timefd_format.specs.declared.column.Column.{Column}
use Rattle.timefd_format.specs.declared.column.Column.TheVariants as columns
use Rattle.timefd_format.specs.declared.header.HeaderError.{HeaderError}
use Rattle.timefd_format.specs.declared.next_record.NextRecords.{NextRecords}
use Rattle.timefd_format.specs.declared.next_record.NextRecords.TheVariants as nexts
use Rattle.timefd_format.specs.declared.records.RecordRead.{RecordRead}
use Rattle.timefd_format.specs.declared.records.RecordRead.TheVariants as reads
use Rattle.timefd_format.specs.declared.source.MomentSource.{MomentSource}
use Rattle.timefd_format.specs.Fields.{field_after, fields, text_of}
use Rattle.timefd_format.specs.LineReports.{IsReportOf, line_after}
use Rattle.timefd_format.specs.Messages.{no_field_message, no_header_message, open_message, unnamed_message}
use Rattle.timefd_format.specs.RecordBatches.{AreRecordsShown}
use Rattle.timefd_format.specs.Records.{AreRecordsOf, IsNextRecord, is_open, named_in}
use Rattle.timefd_format.specs.Reports.{Gets}

-- how many newlines a text has
abbrev pub newlines : Text → ℕ
newlines [] = 0
newlines (b ∷ bs) = if b == 10 then suc (newlines bs) else newlines bs

-- A record has as many lines as newlines, unless it ends the input.
abbrev pub AreLinesIn : Text → Option Text → ℕ → Type 0
AreLinesIn row rest lines = (lines ≡ u64_saturate (newlines row)) ⊎ (rest ≡ Some [])

-- How many lines a record has that was read. Nothing is known of a reader that doesn't say which bytes it has.
abbrev pub AreLinesOfRecord : Option Text → Text → Option Text → ℕ → Type 0
AreLinesOfRecord None row rest lines = ⊤
AreLinesOfRecord (Some bytes) row rest lines = AreLinesIn row rest lines

-- The same of what reading a record came to. A record whose quotes aren't closed ends the input.
abbrev pub CountsLines : Option Text → Text → Option Text → RecordRead → Type 0
CountsLines old row rest (reads.Record lines) = AreLinesOfRecord old row rest lines
CountsLines old row rest reads.Open = AreLinesOfRecord old row rest 1
CountsLines old row rest reads.End = ⊤
CountsLines old row rest reads.Failed = ⊤

-- What is reported of a record that begins in the line with this number, by its field, if it has one.
abbrev pub IsFieldReport : Option Text → MomentSource → BorrowedOutput → ℕ → Text → Type 0
IsFieldReport None source o number report = report ≡ for_people false (no_field_message number)
IsFieldReport (Some field) source o number report = IsReportOf source o (Some number) (text_of field) report

-- The same of a record whose quotes are closed, by whether it is an empty line: nothing is reported of one.
abbrev pub IsWholeReport : Bool → MomentSource → BorrowedOutput → ℕ → ℕ → Text → Text → Type 0
IsWholeReport true source o n number row report = report ≡ []
IsWholeReport false source o n number row report =
    IsFieldReport (field_after n (fields (without_newline row))) source o number report

-- The same of any record, by whether its quotes stay open, which is what the message says then.
abbrev pub IsReportBy : Bool → MomentSource → BorrowedOutput → ℕ → ℕ → Text → Text → Type 0
IsReportBy true source o n number row report = report ≡ for_people false (open_message number)
IsReportBy false source o n number row report =
    IsWholeReport (is_empty (without_newline row)) source o n number row report

-- What is reported of a record that begins in the line with this number: a message if its field isn't written, and
-- else nothing.
abbrev pub IsRecordReport : MomentSource → BorrowedOutput → ℕ → ℕ → Text → Text → Type 0
IsRecordReport source o n number row report = IsReportBy (is_open row) source o n number row report

-- What is reported of records, one after another: the first of them begins in the line with this number, and each
-- other one as many lines further on as the one before it has newlines.
abbrev pub AreRecordReports : MomentSource → BorrowedOutput → ℕ → ℕ → List Text → Text → Type 0
AreRecordReports source o n number [] reports = reports ≡ []
AreRecordReports source o n number (row ∷ records) reports = (one : Text) × (more : Text)
    × IsRecordReport source o n number row one
    × AreRecordReports source o n (line_after number (newlines row)) records more
    × (reports ≡ one ++ more)

-- The stream of messages gets what is reported of a record.
abbrev pub ReportsRecord : MomentSource → BorrowedOutput → ℕ → ℕ → Text → Option Text → Option Text → Bool → Bool → Type 0
ReportsRecord source o n number row before after had_failed failed = (report : Text)
    × IsRecordReport source o n number row report × Gets report before after had_failed failed

-- The same of the records of a reader that says which bytes it has: of all of them, unless a read failed.
abbrev pub ReportsRecords : MomentSource → BorrowedOutput → ℕ → ℕ → Bool → Option Text → Option Text → Option Text → Bool
    → Bool → Type 0
ReportsRecords source o n number unread None before after had_failed failed = ⊤
ReportsRecords source o n number unread (Some bytes) before after had_failed failed =
    (records : List Text) × (reports : Text) × AreRecordsOf (Some bytes) records unread
    × AreRecordReports source o n number records reports × Gets reports before after had_failed failed

-- What is reported after a first record, by the column that it names.
abbrev pub ReportsAfterHeader : Result ℕ HeaderError → MomentSource → BorrowedOutput → Text → Text → Bool → Option Text
    → Option Text → Option Text → Bool → Bool → Type 0
ReportsAfterHeader (Ok n) source o name header unread rest before after had_failed failed =
    ReportsRecords source o n (line_after 1 (newlines header)) unread rest before after had_failed failed
ReportsAfterHeader (Err e) source o name header unread rest before after had_failed failed =
    Gets (for_people false (unnamed_message name e)) before after had_failed failed

-- What is reported of a table whose first record names its columns: there is none, or it can't be read, or there is
-- one.
abbrev pub ReportsNamed : MomentSource → BorrowedOutput → Text → Bool → Option Text → Option Text → Option Text → Bool
    → Bool → Type 0
ReportsNamed source o name unread None before after had_failed failed = ⊤
ReportsNamed source o name unread (Some bytes) before after had_failed failed =
    ((bytes ≡ []) × Gets (for_people false (no_header_message name)) before after had_failed failed)
    ⊎ (((unread ≡ true) × Gets [] before after had_failed failed)
    ⊎ ((header : Text) × (rest : Option Text) × IsNextRecord (Some bytes) header rest
    × ReportsAfterHeader (named_in name header) source o name header unread rest before after had_failed failed))

-- What is reported of a table, by the column that is rewritten. Lines are counted from 1.
abbrev pub ReportsTable : MomentSource → BorrowedOutput → Column → Bool → Option Text → Option Text → Option Text → Bool
    → Bool → Type 0
ReportsTable source o (columns.After n) unread bytes before after had_failed failed =
    ReportsRecords source o n 1 unread bytes before after had_failed failed
ReportsTable source o (columns.Named name) unread bytes before after had_failed failed =
    ReportsNamed source o name.now unread bytes before after had_failed failed

-- What is reported of the next records, the first of which begins in the line with this number: nothing of those of a
-- batch, and a message on one that is looked at by itself, if it isn't written.
abbrev pub ReportsNextRecords : MomentSource → BorrowedOutput → ℕ → ℕ → Option Text → Option Text → Option Text
    → Option Text → Bool → Bool → NextRecords → Type 0
ReportsNextRecords source o n number old new before after had_failed failed (nexts.Batch k) =
    (read : Text) × (written : Text) × (1 ≤ k) × AreRecordsShown source o n k read written × Consumes old new read
    × Gets [] before after had_failed failed
ReportsNextRecords source o n number old new before after had_failed failed (nexts.Record tally lines) = (row : Text)
    × IsNextRecord old row new × AreLinesOfRecord old row new lines
    × ReportsRecord source o n number row before after had_failed failed
ReportsNextRecords source o n number old new before after had_failed failed nexts.End =
    IsAtEnd old × Gets [] before after had_failed failed
ReportsNextRecords source o n number old new before after had_failed failed nexts.Failed =
    Gets [] before after had_failed failed
