-- What is reported of one more record, and the number of the line where it begins.
use Rattle.std.proofs.Common.{ℕ, zero, suc, ◌≡◌, ◌∙◌, ◌++◌, ◌≤◌, ◌⊎◌, inl, inr, Bool, true, false, List, [], ◌∷◌, Option, Some, None, Result, Ok, Err, IfOk, OnOk, refl, sym, ap, subst, arith}
use Rattle.std.specs.Io.Iter.{u64_saturate}
use Rattle.std.specs.Io.KnownBytes.{Consumes, IsAtEnd, Keeps}
use Rattle.timefd_lang_component.specs.Tree.{Text}
use Rattle.timefd_lint_drawing.specs.People.{for_people}
use Rattle.timefd_date_format.specs.declared.field.Unshown.{Unshown}
use Rattle.timefd_parse.specs.Grammar.{is_empty}
use Rattle.timefd_parse.specs.declared.parsing.BorrowedOutput.{BorrowedOutput}
use Rattle.timefd_lint_rewrite.specs.Lines.{without_newline}
use Rattle.timefd_format.specs.declared.fast.take.BatchTaken.{BatchTaken}
use Rattle.timefd_format.specs.declared.fast.take.BatchTaken.TheVariants as takes
use Rattle.timefd_format.specs.declared.frame.Cell.{Cell}
use Rattle.timefd_format.specs.declared.header.HeaderError.{HeaderError}
use Rattle.timefd_format.specs.declared.next_record.NextRecords.{NextRecords}
use Rattle.timefd_format.specs.declared.next_record.NextRecords.TheVariants as nexts
use Rattle.timefd_format.specs.declared.outcome.WordOutcome.TheVariants as came
use Rattle.timefd_format.specs.declared.outcome.RunError.{RunError}
use Rattle.timefd_format.specs.declared.outcome.WordTally.{WordTally}
use Rattle.timefd_format.specs.declared.quoting.FieldQuoting.TheVariants.{Start}
use Rattle.timefd_format.specs.declared.records.RecordRead.{RecordRead}
use Rattle.timefd_format.specs.declared.records.RecordRead.TheVariants as reads
use Rattle.timefd_format.specs.declared.source.MomentSource.{MomentSource}
use Rattle.timefd_format.specs.Fields.{IsCell, field_after, fields, text_of}
use Rattle.timefd_format.specs.LineReports.{IsShown, ReportsWord, line_after}
use Rattle.timefd_format.specs.Messages.{no_field_message, no_header_message, open_message, unnamed_message}
use Rattle.timefd_format.specs.RecordBatches.{AreRecordsShown, AreRecordsTaken, IsPlainRecord, IsRecordShownAs, in_cell}
use Rattle.timefd_format.specs.Records.{AreRecordsOf, IsNextRecord, IsRecordRead, is_open, left_from, named_in, record_from}
use Rattle.timefd_format.specs.Reports.{Gets}
use Rattle.timefd_format.specs.TableReports.{AreLinesIn, AreLinesOfRecord, AreRecordReports, CountsLines, IsRecordReport, ReportsAfterHeader, ReportsNamed, ReportsNextRecords, ReportsRecord, ReportsRecords, newlines}
use Rattle.timefd_format.specs.Written.{written_of}
use Rattle.timefd_format.proofs.LineReportLemmas.{after_each}
use Rattle.timefd_format.proofs.PlainRecordLemmas.{is_closed, is_next}
use Rattle.timefd_format.proofs.RecordCountLemmas.{one_line}
use Rattle.timefd_format.proofs.RecordTakenLemmas.{filled_by}
use Rattle.timefd_format.proofs.ReportLemmas.{gets_more, gets_nothing}
use Rattle.timefd_format.proofs.TableLemmas.{more_records, no_record_left, no_record_read}
use Rattle.timefd_format.proofs.TakenLemmas.{between_consumed}

-- One record.

pub empty_reported : (source : MomentSource) (o : BorrowedOutput) (n number : ℕ) (row : Text) (before : Option Text)
    (failed : Bool) → is_open row ≡ false → is_empty (without_newline row) ≡ true
    → ReportsRecord source o n number row before before failed failed
empty_reported source o n number row before failed shut none =
    ([], rw shut (rw none refl), gets_nothing before failed)

pub no_field_reported : (source : MomentSource) (o : BorrowedOutput) (n number : ℕ) (row message : Text)
    (before after : Option Text) (had_failed failed : Bool) → is_open row ≡ false
    → is_empty (without_newline row) ≡ false → field_after n (fields (without_newline row)) ≡ None
    → message ≡ no_field_message number → Gets (for_people false message) before after had_failed failed
    → ReportsRecord source o n number row before after had_failed failed
no_field_reported source o n number row message before after had_failed failed shut some none is gets =
    (for_people false message, rw shut (rw some (rw none (ap (for_people false) is))), gets)

pub field_reported : (source : MomentSource) (o : BorrowedOutput) (n number : ℕ) (row text : Text) (cell : Cell)
    (before after : Option Text) (had_failed failed : Bool) → is_open row ≡ false
    → is_empty (without_newline row) ≡ false → IsCell n row cell → text ≡ text_of cell.field.now
    → ReportsWord source o (Some number) text before after had_failed failed
    → ReportsRecord source o n number row before after had_failed failed
field_reported source o n number row text cell before after had_failed failed shut some is text_is reported =
    let at = subst (λ t. ReportsWord source o (Some number) t before after had_failed failed) text_is reported in
    (at.0, rw shut (rw some (rw is.0 at.1)), at.2)

pub field_reported_ok : (source : MomentSource) (o : BorrowedOutput) (n number : ℕ) (row text : Text) (cell : Cell)
    (before after : Option Text) (had_failed failed : Bool) (r : Result WordTally RunError) → is_open row ≡ false
    → is_empty (without_newline row) ≡ false → IsCell n row cell → text ≡ text_of cell.field.now
    → OnOk r (ReportsWord source o (Some number) text before after had_failed failed)
    → OnOk r (ReportsRecord source o n number row before after had_failed failed)
field_reported_ok source o n number row text cell before after had_failed failed (Ok tally) shut some is text_is reported =
    field_reported source o n number row text cell before after had_failed failed shut some is text_is reported
field_reported_ok source o n number row text cell before after had_failed failed (Err e) shut some is text_is reported =
    tt

pub open_reported_at : (source : MomentSource) (o : BorrowedOutput) (n number : ℕ) (row : Text) (before after : Option Text)
    (had_failed failed : Bool) → is_open row ≡ true
    → Gets (for_people false (open_message number)) before after had_failed failed
    → ReportsRecord source o n number row before after had_failed failed
open_reported_at source o n number row before after had_failed failed wide gets =
    (for_people false (open_message number), rw wide refl, gets)

-- What comes next is a batch, or a record that is looked at by itself, or none.

pub batch_reported : (source : MomentSource) (o : BorrowedOutput) (n number : ℕ)
    (old new written_before written_after before : Option Text) (failed : Bool) (k : ℕ) (t : BatchTaken)
    → t ≡ takes.Lines k → AreRecordsTaken source o n old new written_before written_after t
    → ReportsNextRecords source o n number old new before before failed failed (nexts.Batch k)
batch_reported source o n number old new written_before written_after before failed k t is taken =
    let records = subst (λ x. AreRecordsTaken source o n old new written_before written_after x) is taken in
    (records.0, records.1, records.2, records.3, records.4, gets_nothing before failed)

pub end_reported : (source : MomentSource) (o : BorrowedOutput) (n number : ℕ)
    (old new written_before written_after before : Option Text) (failed : Bool) (t : BatchTaken) → t ≡ takes.End
    → AreRecordsTaken source o n old new written_before written_after t
    → ReportsNextRecords source o n number old new before before failed failed nexts.End
end_reported source o n number old new written_before written_after before failed t is taken = (
  (subst (λ x. AreRecordsTaken source o n old new written_before written_after x) is taken).1,
  gets_nothing before failed,
)

pub failure_reported : (source : MomentSource) (o : BorrowedOutput) (n number : ℕ) (old new before : Option Text)
    (failed : Bool) → ReportsNextRecords source o n number old new before before failed failed nexts.Failed
failure_reported source o n number old new before failed = gets_nothing before failed

kept_reports : (source : MomentSource) (o : BorrowedOutput) (n number : ℕ) (old mid new before after : Option Text)
    (had_failed failed : Bool) (r : NextRecords) → Keeps old mid
    → ReportsNextRecords source o n number mid new before after had_failed failed r
    → ReportsNextRecords source o n number old new before after had_failed failed r
kept_reports source o n number None mid new before after had_failed failed (nexts.Batch k) same is =
    (is.0, is.1, is.2, is.3, tt, is.5)
kept_reports source o n number None mid new before after had_failed failed (nexts.Record t lines) same is =
    (is.0, tt, tt, is.3)
kept_reports source o n number None mid new before after had_failed failed nexts.End same is = (tt, is.1)
kept_reports source o n number None mid new before after had_failed failed nexts.Failed same is = is
kept_reports source o n number (Some x) None new before after had_failed failed r same is = absurd same
kept_reports source o n number (Some x) (Some y) new before after had_failed failed r same is =
    subst (λ z. ReportsNextRecords source o n number (Some z) new before after had_failed failed r) same is

pub after_nothing : (source : MomentSource) (o : BorrowedOutput) (n number : ℕ)
    (old mid new written_before written_after before after : Option Text) (had_failed failed : Bool) (t : BatchTaken)
    (r : Result NextRecords RunError) → t ≡ takes.Nothing
    → AreRecordsTaken source o n old mid written_before written_after t
    → IfOk r (ReportsNextRecords source o n number mid new before after had_failed failed)
    → IfOk r (ReportsNextRecords source o n number old new before after had_failed failed)
after_nothing source o n number old mid new written_before written_after before after had_failed failed t (Err e) is
    taken next = tt
after_nothing source o n number old mid new written_before written_after before after had_failed failed t (Ok r) is
    taken next =
    kept_reports source o n number old mid new before after had_failed failed r
    (subst (λ x. AreRecordsTaken source o n old mid written_before written_after x) is taken).1 next

pub record_reported : (source : MomentSource) (o : BorrowedOutput) (n number lines : ℕ) (old new before after : Option Text)
    (had_failed failed : Bool) (row : Text) (one : WordTally) (r : RecordRead) → r ≡ reads.Record lines
    → IsRecordRead old new row r → CountsLines old row new r
    → ReportsRecord source o n number row before after had_failed failed
    → ReportsNextRecords source o n number old new before after had_failed failed (nexts.Record one lines)
record_reported source o n number lines old new before after had_failed failed row one r is read counted reported = (
  row,
  (subst (λ x. IsRecordRead old new row x) is read).0,
  subst (λ x. CountsLines old row new x) is counted,
  reported,
)

pub open_reported : (source : MomentSource) (o : BorrowedOutput) (n number : ℕ) (old new before after : Option Text)
    (had_failed failed : Bool) (row : Text) (one : WordTally) (r : RecordRead) → r ≡ reads.Open
    → IsRecordRead old new row r → CountsLines old row new r
    → Gets (for_people false (open_message number)) before after had_failed failed
    → ReportsNextRecords source o n number old new before after had_failed failed (nexts.Record one 1)
open_reported source o n number old new before after had_failed failed row one r is read counted gets =
    let at : IsRecordRead old new row reads.Open = subst (λ x. IsRecordRead old new row x) is read in (
      row,
      at.0,
      subst (λ x. CountsLines old row new x) is counted,
      open_reported_at source o n number row before after had_failed failed at.1 gets,
    )

pub no_record_reported : (source : MomentSource) (o : BorrowedOutput) (n number : ℕ) (old new before : Option Text)
    (failed : Bool) (row : Text) (r : RecordRead) → r ≡ reads.End → IsRecordRead old new row r
    → ReportsNextRecords source o n number old new before before failed failed nexts.End
no_record_reported source o n number old new before failed row r is read =
    (subst (λ x. IsRecordRead old new row x) is read, gets_nothing before failed)

-- Reporting the rest of the records, from the line with this number on, after what is reported reports all.
abbrev pub CompletesReports : MomentSource → BorrowedOutput → ℕ → ℕ → ℕ → Option Text → Option Text → Option Text
    → Option Text → Bool → Bool → Type 0
CompletesReports source o n first number bytes left before between had_failed has_failed = (unread : Bool)
    (after : Option Text) (failed : Bool)
    → ReportsRecords source o n number unread left between after has_failed failed
    → ReportsRecords source o n first unread bytes before after had_failed failed

pub starts : (source : MomentSource) (o : BorrowedOutput) (n number : ℕ) (bytes before : Option Text) (failed : Bool)
    → CompletesReports source o n number number bytes bytes before before failed failed
starts source o n number bytes before had_failed unread after failed more = more

-- Where nothing is left, it doesn't matter which number the next line has.

no_row : (rest row : Text) → rest ≡ [] → row ≡ record_from Start rest → row ≡ []
no_row rest row none is = is ∙ ap (record_from Start) none

no_records : (rest row : Text) (records : List Text) (unread : Bool) → rest ≡ []
    → AreRecordsOf (Some rest) (row ∷ records) unread → ⊥
no_records rest row records true none are = are.1.0 (no_row rest row none are.1.1)
no_records rest row records false none are = are.0 (no_row rest row none are.1)

rest_numbered : (source : MomentSource) (o : BorrowedOutput) (n later number : ℕ) (rest : Text) (records : List Text)
    (reports : Text) (unread : Bool) → (later ≡ number) ⊎ (rest ≡ [])
    → AreRecordsOf (Some rest) records unread → AreRecordReports source o n later records reports
    → AreRecordReports source o n number records reports
rest_numbered source o n later number rest records reports unread (inl same) are reported =
    subst (λ k. AreRecordReports source o n k records reports) same reported
rest_numbered source o n later number rest [] reports unread (inr none) are reported = reported
rest_numbered source o n later number rest (row ∷ records) reports unread (inr none) are reported =
    absurd (no_records rest row records unread none are)

after_lines : (number count lines later : ℕ) → lines ≡ u64_saturate count → later ≡ line_after number lines
    → later ≡ line_after number count
after_lines number count lines later is later_is = omega (arith, is, later_is)

number_is : (number lines later : ℕ) (row rest : Text) → AreLinesIn row (Some rest) lines
    → later ≡ line_after number lines → (later ≡ line_after number (newlines row)) ⊎ (rest ≡ [])
number_is number lines later row rest (inl counted) later_is =
    inl (after_lines number (newlines row) lines later counted later_is)
number_is number lines later row rest (inr none) later_is = inr cc

none_or_some : (rest : Option Text) (text : Text) → rest ≡ Some text → rest ≡ None → ⊥
none_or_some rest text is none = absurd cc

one_more_known : (source : MomentSource) (o : BorrowedOutput) (n first number lines later : ℕ) (bytes : Option Text)
    (xs row ys : Text) (before between next : Option Text) (had_failed has_failed then_failed : Bool)
    → CompletesReports source o n first number bytes (Some xs) before between had_failed has_failed
    → IsNextRecord (Some xs) row (Some ys) → AreLinesIn row (Some ys) lines → later ≡ line_after number lines
    → ReportsRecord source o n number row between next has_failed then_failed
    → CompletesReports source o n first later bytes (Some ys) before next had_failed then_failed
one_more_known source o n first number lines later bytes xs row ys before between next had_failed has_failed then_failed
    so_far read counted later_is reported unread after failed more =
    so_far unread after failed (
      row ∷ more.0,
      reported.0 ++ more.1,
      more_records (Some xs) (Some ys) row more.0 unread read more.2,
      (
        reported.0,
        more.1,
        reported.1,
        rest_numbered source o n later (line_after number (newlines row)) ys more.0 more.1 unread
            (number_is number lines later row ys counted later_is) more.2 more.3,
        refl,
      ),
      gets_more reported.0 more.1 between next after has_failed then_failed failed reported.2 more.4,
    )

one_more : (source : MomentSource) (o : BorrowedOutput) (n first number lines later : ℕ) (bytes left rest : Option Text)
    (row : Text) (before between next : Option Text) (had_failed has_failed then_failed : Bool)
    → CompletesReports source o n first number bytes left before between had_failed has_failed
    → IsNextRecord left row rest → AreLinesOfRecord left row rest lines → later ≡ line_after number lines
    → ReportsRecord source o n number row between next has_failed then_failed
    → CompletesReports source o n first later bytes rest before next had_failed then_failed
one_more source o n first number lines later bytes None rest row before between next had_failed has_failed then_failed
    so_far read counted later_is reported = λ unread after failed more. so_far unread after failed tt
one_more source o n first number lines later bytes (Some xs) None row before between next had_failed has_failed
    then_failed so_far read counted later_is reported = absurd (none_or_some None (left_from Start xs) read.2 refl)
one_more source o n first number lines later bytes (Some xs) (Some ys) row before between next had_failed has_failed
    then_failed so_far read counted later_is reported =
    one_more_known source o n first number lines later bytes xs row ys before between next had_failed has_failed
    then_failed so_far read counted later_is reported

-- Nothing is reported meanwhile.
silent_in : (source : MomentSource) (o : BorrowedOutput) (n number : ℕ) (unread : Bool)
    (left between next after : Option Text) (has_failed then_failed failed : Bool)
    → Gets [] between next has_failed then_failed
    → ReportsRecords source o n number unread left next after then_failed failed
    → ReportsRecords source o n number unread left between after has_failed failed
silent_in source o n number unread None between next after has_failed then_failed failed gets more = tt
silent_in source o n number unread (Some xs) between next after has_failed then_failed failed gets more = (
  more.0,
  more.1,
  more.2,
  more.3,
  gets_more [] more.1 between next after has_failed then_failed failed gets more.4,
)

-- A batch.

shown_by : (x : Result Text Unshown) (cell : Cell) (shown : Text) → in_cell cell x ≡ Ok shown → IsShown x
shown_by (Ok text) cell shown is = tt
shown_by (Err u) cell shown is = absurd cc

nothing_of : (source : MomentSource) (o : BorrowedOutput) (n number : ℕ) (row shown : Text) → IsPlainRecord row
    → IsRecordShownAs source o n row shown → IsRecordReport source o n number row []
nothing_of source o n number row shown plain is =
    let found : field_after n (fields (without_newline row)) ≡ Some is.0.field.now = is.2.0 in
    let some : is_empty (without_newline row) ≡ false = filled_by (without_newline row) is.0.field.now n is.3 found in
    rw (is_closed row plain) (rw some (rw found
    (came.Written is.1, (is.4, shown_by (written_of is.1 o) is.0 shown is.5), refl)))

one_counted : (left rest : Option Text) (row : Text) → IsPlainRecord row → AreLinesOfRecord left row rest 1
one_counted None rest row plain = tt
one_counted (Some xs) rest row plain = inl (sym (ap u64_saturate (one_line row plain)))

shown_more : (source : MomentSource) (o : BorrowedOutput) (n first number : ℕ) (bytes left rest : Option Text)
    (row shown : Text) (before between : Option Text) (had_failed has_failed : Bool)
    → CompletesReports source o n first number bytes left before between had_failed has_failed → IsPlainRecord row
    → IsRecordShownAs source o n row shown → Consumes left rest row
    → CompletesReports source o n first (line_after number 1) bytes rest before between had_failed has_failed
shown_more source o n first number bytes left rest row shown before between had_failed has_failed so_far plain is
    consumed =
    one_more source o n first number 1 (line_after number 1) bytes left rest row before between between had_failed
    has_failed has_failed so_far (is_next left rest row plain consumed) (one_counted left rest row plain) refl
    ([], nothing_of source o n number row shown plain is, gets_nothing between has_failed)

records_more : (source : MomentSource) (o : BorrowedOutput) (n first number k : ℕ) (read written : Text)
    (bytes left rest before between : Option Text) (had_failed has_failed : Bool)
    → CompletesReports source o n first number bytes left before between had_failed has_failed
    → AreRecordsShown source o n (suc k) read written → Consumes left rest read
    → CompletesReports source o n first (line_after number (suc k)) bytes rest before between had_failed has_failed
records_more source o n first number zero read written bytes left rest before between had_failed has_failed so_far are
    consumed =
    shown_more source o n first number bytes left rest are.1 are.3 before between had_failed has_failed so_far are.5
    are.6 (subst (Consumes left rest) (are.7 ∙ ap (λ front. front ++ are.1) are.4.0) consumed)
records_more source o n first number (suc k) read written bytes left rest before between had_failed has_failed so_far
    are consumed =
    let mid = between_consumed left rest are.0 are.1 (subst (Consumes left rest) are.7 consumed) in
    subst (λ l. CompletesReports source o n first l bytes rest before between had_failed has_failed)
    (after_each number k)
    (shown_more source o n first (line_after number (suc k)) bytes mid.0 rest are.1 are.3 before between had_failed
    has_failed
    (records_more source o n first number k are.0 are.2 bytes left mid.0 before between had_failed has_failed so_far
    are.4 mid.1) are.5 are.6 mid.2)

some_more : (source : MomentSource) (o : BorrowedOutput) (n first number k : ℕ) (read written : Text)
    (bytes left rest before between : Option Text) (had_failed has_failed : Bool) → 1 ≤ k
    → CompletesReports source o n first number bytes left before between had_failed has_failed
    → AreRecordsShown source o n k read written → Consumes left rest read
    → CompletesReports source o n first (line_after number k) bytes rest before between had_failed has_failed
some_more source o n first number zero read written bytes left rest before between had_failed has_failed some so_far are
    consumed = absurd (omega (arith, some))
some_more source o n first number (suc k) read written bytes left rest before between had_failed has_failed some so_far
    are consumed =
    records_more source o n first number k read written bytes left rest before between had_failed has_failed so_far are
    consumed

pub batch_more : (source : MomentSource) (o : BorrowedOutput) (n first number later : ℕ)
    (bytes left rest before between next : Option Text) (had_failed has_failed then_failed : Bool) (k : ℕ)
    (r : NextRecords) → r ≡ nexts.Batch k
    → CompletesReports source o n first number bytes left before between had_failed has_failed
    → ReportsNextRecords source o n number left rest between next has_failed then_failed r
    → later ≡ line_after number k
    → CompletesReports source o n first later bytes rest before next had_failed then_failed
batch_more source o n first number later bytes left rest before between next had_failed has_failed then_failed k r is
    so_far reported later_is unread after failed more =
    let records =
    subst (λ x. ReportsNextRecords source o n number left rest between next has_failed then_failed x) is reported in
    some_more source o n first number k records.0 records.1 bytes left rest before between had_failed has_failed
    records.2 so_far records.3 records.4 unread after failed
    (subst (λ l. ReportsRecords source o n l unread rest between after has_failed failed) later_is
    (silent_in source o n later unread rest between next after has_failed then_failed failed records.5 more))

pub record_more : (source : MomentSource) (o : BorrowedOutput) (n first number later lines : ℕ)
    (bytes left rest before between next : Option Text) (had_failed has_failed then_failed : Bool) (one : WordTally)
    (r : NextRecords) → r ≡ nexts.Record one lines
    → CompletesReports source o n first number bytes left before between had_failed has_failed
    → ReportsNextRecords source o n number left rest between next has_failed then_failed r
    → later ≡ line_after number lines
    → CompletesReports source o n first later bytes rest before next had_failed then_failed
record_more source o n first number later lines bytes left rest before between next had_failed has_failed then_failed one
    r is so_far reported later_is =
    let row =
    subst (λ x. ReportsNextRecords source o n number left rest between next has_failed then_failed x) is reported in
    one_more source o n first number lines later bytes left rest row.0 before between next had_failed has_failed
    then_failed so_far row.1 row.2 later_is row.3

-- The end of the input, and a read that failed.

none_left_of : (source : MomentSource) (o : BorrowedOutput) (n number : ℕ) (left before after : Option Text)
    (had_failed failed : Bool) → IsAtEnd left → Gets [] before after had_failed failed
    → ReportsRecords source o n number false left before after had_failed failed
none_left_of source o n number None before after had_failed failed end gets = tt
none_left_of source o n number (Some xs) before after had_failed failed end gets =
    ([], [], no_record_left (Some xs) end, refl, gets)

none_read_of : (source : MomentSource) (o : BorrowedOutput) (n number : ℕ) (left before after : Option Text)
    (had_failed failed : Bool) → Gets [] before after had_failed failed
    → ReportsRecords source o n number true left before after had_failed failed
none_read_of source o n number None before after had_failed failed gets = tt
none_read_of source o n number (Some xs) before after had_failed failed gets =
    ([], [], no_record_read (Some xs), refl, gets)

pub all_reported : (source : MomentSource) (o : BorrowedOutput) (n first number : ℕ)
    (bytes left rest before between after : Option Text) (had_failed has_failed failed unread : Bool) (r : NextRecords)
    → r ≡ nexts.End → CompletesReports source o n first number bytes left before between had_failed has_failed
    → ReportsNextRecords source o n number left rest between after has_failed failed r → unread ≡ false
    → ReportsRecords source o n first unread bytes before after had_failed failed
all_reported source o n first number bytes left rest before between after had_failed has_failed failed unread r is so_far
    reported unread_is =
    let end = subst (λ x. ReportsNextRecords source o n number left rest between after has_failed failed x) is reported in
    subst (λ u. ReportsRecords source o n first u bytes before after had_failed failed) (sym unread_is)
    (so_far false after failed (none_left_of source o n number left between after has_failed failed end.0 end.1))

pub some_reported : (source : MomentSource) (o : BorrowedOutput) (n first number : ℕ)
    (bytes left rest before between after : Option Text) (had_failed has_failed failed unread : Bool) (r : NextRecords)
    → r ≡ nexts.Failed → CompletesReports source o n first number bytes left before between had_failed has_failed
    → ReportsNextRecords source o n number left rest between after has_failed failed r → unread ≡ true
    → ReportsRecords source o n first unread bytes before after had_failed failed
some_reported source o n first number bytes left rest before between after had_failed has_failed failed unread r is
    so_far reported unread_is =
    let gets = subst (λ x. ReportsNextRecords source o n number left rest between after has_failed failed x) is reported in
    subst (λ u. ReportsRecords source o n first u bytes before after had_failed failed) (sym unread_is)
    (so_far true after failed (none_read_of source o n number left between after has_failed failed gets))

-- A table whose first record names its columns.

pub no_header_reported : (source : MomentSource) (o : BorrowedOutput) (name message row : Text) (unread : Bool)
    (bytes rest before after : Option Text) (had_failed failed : Bool) (r : RecordRead) → r ≡ reads.End
    → IsRecordRead bytes rest row r → message ≡ no_header_message name
    → Gets (for_people false message) before after had_failed failed
    → ReportsNamed source o name unread bytes before after had_failed failed
no_header_reported source o name message row unread None rest before after had_failed failed r is read message_is gets =
    tt
no_header_reported source o name message row unread (Some xs) rest before after had_failed failed r is read message_is
    gets = inl (
      subst (λ x. IsRecordRead (Some xs) rest row x) is read,
      subst (λ m. Gets (for_people false m) before after had_failed failed) message_is gets,
    )

pub header_unread : (source : MomentSource) (o : BorrowedOutput) (name : Text) (unread : Bool) (bytes before : Option Text)
    (failed : Bool) → unread ≡ true → ReportsNamed source o name unread bytes before before failed failed
header_unread source o name unread None before failed is = tt
header_unread source o name unread (Some xs) before failed is = inr (inl (is, gets_nothing before failed))

pub unnamed_reported : (source : MomentSource) (o : BorrowedOutput) (name message header : Text) (unread : Bool)
    (bytes rest before after : Option Text) (had_failed failed : Bool) (e : HeaderError)
    → IsNextRecord bytes header rest → named_in name header ≡ Err e → message ≡ unnamed_message name e
    → Gets (for_people false message) before after had_failed failed
    → ReportsNamed source o name unread bytes before after had_failed failed
unnamed_reported source o name message header unread None rest before after had_failed failed e read named message_is
    gets = tt
unnamed_reported source o name message header unread (Some xs) rest before after had_failed failed e read named
    message_is gets = inr (inr (
      header,
      rest,
      read,
      rw named (subst (λ m. Gets (for_people false m) before after had_failed failed) message_is gets),
    ))

renumbered : (source : MomentSource) (o : BorrowedOutput) (n later number : ℕ) (unread : Bool) (rest : Text)
    (before after : Option Text) (had_failed failed : Bool) → (later ≡ number) ⊎ (rest ≡ [])
    → ReportsRecords source o n later unread (Some rest) before after had_failed failed
    → ReportsRecords source o n number unread (Some rest) before after had_failed failed
renumbered source o n later number unread rest before after had_failed failed same more = (
  more.0,
  more.1,
  more.2,
  rest_numbered source o n later number rest more.0 more.1 unread same more.2 more.3,
  more.4,
)

from_header : (source : MomentSource) (o : BorrowedOutput) (n lines later : ℕ) (header xs : Text) (unread : Bool)
    (rest before after : Option Text) (had_failed failed : Bool) → IsNextRecord (Some xs) header rest
    → AreLinesIn header rest lines → later ≡ line_after lines 1
    → ReportsRecords source o n later unread rest before after had_failed failed
    → ReportsRecords source o n (line_after 1 (newlines header)) unread rest before after had_failed failed
from_header source o n lines later header xs unread None before after had_failed failed read counted later_is more = tt
from_header source o n lines later header xs unread (Some ys) before after had_failed failed read counted later_is more =
    renumbered source o n later (line_after 1 (newlines header)) unread ys before after had_failed failed
    (number_is 1 lines later header ys counted (omega (arith, later_is))) more

pub named_reported : (source : MomentSource) (o : BorrowedOutput) (name header : Text) (n lines later : ℕ) (unread : Bool)
    (bytes rest before after : Option Text) (had_failed failed : Bool) → IsNextRecord bytes header rest
    → AreLinesOfRecord bytes header rest lines → named_in name header ≡ Ok n → later ≡ line_after lines 1
    → ReportsRecords source o n later unread rest before after had_failed failed
    → ReportsNamed source o name unread bytes before after had_failed failed
named_reported source o name header n lines later unread None rest before after had_failed failed read counted named
    later_is more = tt
named_reported source o name header n lines later unread (Some xs) rest before after had_failed failed read counted named
    later_is more = inr (inr (
      header,
      rest,
      read,
      rw named (from_header source o n lines later header xs unread rest before after had_failed failed read counted
          later_is more),
    ))
