-- What is written of a table, one record after another.
use Rattle.std.specs.Prelude.{ℕ, ◌≡◌, Bool, true, false, List, [], ◌∷◌, ◌⊎◌, Option, Some, None, Result, Ok, Err}
use Rattle.std.specs.Io.KnownBytes.{Appends, IsAtEnd}
use Rattle.timefd_lang_component.specs.Tree.{Text}
use Rattle.timefd_parse.specs.Grammar.{is_empty}
use Rattle.timefd_parse.specs.declared.parsing.BorrowedOutput.{BorrowedOutput}
use Rattle.timefd_lint_rewrite.specs.Lines.{without_newline}
use Rattle.timefd_format.specs.declared.column.Column.{Column}
use Rattle.timefd_format.specs.declared.column.Column.TheVariants as columns
use Rattle.timefd_format.specs.declared.frame.Cell.{Cell}
use Rattle.timefd_format.specs.declared.frame.LineFrame.TheVariants as frames
use Rattle.timefd_format.specs.declared.header.HeaderError.{HeaderError}
use Rattle.timefd_format.specs.declared.otherwise.Otherwise.{Otherwise}
use Rattle.timefd_format.specs.declared.otherwise.Otherwise.TheVariants as otherwise
use Rattle.timefd_format.specs.declared.outcome.WordTally.{WordTally}
use Rattle.timefd_format.specs.declared.source.MomentSource.{MomentSource}
use Rattle.timefd_format.specs.Fields.{IsCell, field_after, fields, text_of}
use Rattle.timefd_format.specs.Records.{AreRecordsOf, IsNextRecord, is_open, named_in}
use Rattle.timefd_format.specs.Tallies.{at_end, both, refused}
use Rattle.timefd_format.specs.Written.{IsTallyOf}

-- A record without the field stays as it is, unless it is to be left out or the run should fail.
abbrev pub ReplacesRecord : Otherwise → Text → Option Text → Option Text → Type 0
ReplacesRecord otherwise.Nothing row before after = after ≡ before
ReplacesRecord otherwise.Keep row before after = Appends before after row
ReplacesRecord otherwise.Empty row before after = Appends before after row
ReplacesRecord otherwise.Fail row before after = ⊥

-- What a record becomes, by its field at this index, if it has one. Only that field is rewritten.
abbrev pub IsFieldRecord : Option Text → Otherwise → MomentSource → BorrowedOutput → ℕ → Text → Option Text
    → Option Text → WordTally → Type 0
IsFieldRecord None otherwise source o n row before after tally =
    ReplacesRecord otherwise row before after × (tally ≡ refused)
IsFieldRecord (Some field) otherwise source o n row before after tally = (cell : Cell) × IsCell n row cell
    × IsTallyOf otherwise source o (frames.Field cell) (text_of field) before after tally

-- An empty line has no field, and stays as it is.
abbrev pub IsWholeRecord : Bool → Otherwise → MomentSource → BorrowedOutput → ℕ → Text → Option Text
    → Option Text → WordTally → Type 0
IsWholeRecord true otherwise source o n row before after tally =
    Appends before after row × (tally ≡ at_end false)
IsWholeRecord false otherwise source o n row before after tally =
    IsFieldRecord (field_after n (fields (without_newline row))) otherwise source o n row before after
    tally

-- A record whose quotes aren't closed has no certain fields.
abbrev pub IsRecordBy : Bool → Otherwise → MomentSource → BorrowedOutput → ℕ → Text → Option Text
    → Option Text → WordTally → Type 0
IsRecordBy true otherwise source o n row before after tally =
    ReplacesRecord otherwise row before after × (tally ≡ refused)
IsRecordBy false otherwise source o n row before after tally =
    IsWholeRecord (is_empty (without_newline row)) otherwise source o n row before after tally

-- What a record becomes.
abbrev pub IsRecord : Otherwise → MomentSource → BorrowedOutput → ℕ → Text → Option Text → Option Text
    → WordTally → Type 0
IsRecord otherwise source o n row before after tally =
    IsRecordBy (is_open row) otherwise source o n row before after tally

-- What the records become, one after another, and what the end after them is: whether a read failed.
abbrev pub RunsRecords : Bool → Otherwise → MomentSource → BorrowedOutput → ℕ → List Text → Option Text
    → Option Text → WordTally → Type 0
RunsRecords failed otherwise source o n [] before after tally =
    (after ≡ before) × (tally ≡ at_end failed)
RunsRecords failed otherwise source o n (row ∷ records) before after tally = (one : WordTally)
    × (between : Option Text) × (more : WordTally) × IsRecord otherwise source o n row before between one
    × RunsRecords failed otherwise source o n records between after more × (tally ≡ both one more)

-- The records are those of a reader: all of them, unless a read failed.
abbrev pub RunsRecordsOn : Bool → Otherwise → MomentSource → BorrowedOutput → ℕ → Option Text → Option Text
    → Option Text → WordTally → Type 0
RunsRecordsOn failed otherwise source o n bytes before after tally = (records : List Text)
    × AreRecordsOf bytes records failed × RunsRecords failed otherwise source o n records before after tally

abbrev pub RunsRecordsOver : Otherwise → MomentSource → BorrowedOutput → ℕ → Option Text → Option Text
    → Option Text → WordTally → Type 0
RunsRecordsOver otherwise source o n bytes before after tally =
    (failed : Bool) × RunsRecordsOn failed otherwise source o n bytes before after tally

-- The first record is kept, and names the column of the others. If it doesn't name it, nothing is
-- written.
abbrev pub IsAfterHeader : Result ℕ HeaderError → Otherwise → MomentSource → BorrowedOutput → Text → Option Text
    → Option Text → Option Text → WordTally → Type 0
IsAfterHeader (Ok n) otherwise source o header rest before after tally = (between : Option Text)
    × Appends before between header × RunsRecordsOver otherwise source o n rest between after tally
IsAfterHeader (Err e) otherwise source o header rest before after tally =
    (after ≡ before) × (tally ≡ refused)

-- There is no first record; or it can't be read; or there is one.
abbrev pub IsNamedTable : Otherwise → MomentSource → BorrowedOutput → Text → Option Text → Option Text
    → Option Text → WordTally → Type 0
IsNamedTable otherwise source o name bytes before after tally =
    ((after ≡ before) × ((IsAtEnd bytes × (tally ≡ refused)) ⊎ (tally ≡ at_end true)))
    ⊎ ((header : Text) × (rest : Option Text) × IsNextRecord bytes header rest
    × IsAfterHeader (named_in name header) otherwise source o header rest before after tally)

-- What a table becomes, by the column that is rewritten.
abbrev pub IsTable : Otherwise → MomentSource → BorrowedOutput → Column → Option Text → Option Text
    → Option Text → WordTally → Type 0
IsTable otherwise source o (columns.After n) bytes before after tally =
    RunsRecordsOver otherwise source o n bytes before after tally
IsTable otherwise source o (columns.Named name) bytes before after tally =
    IsNamedTable otherwise source o name.now bytes before after tally
