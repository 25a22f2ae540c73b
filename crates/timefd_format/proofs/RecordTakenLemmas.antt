-- Batches of records that are taken from a reader.
use Rattle.std.proofs.Common.{ℕ, zero, suc, ◌≡◌, ◌∙◌, ◌++◌, ◌≤◌, ◌==◌, Bool, true, false, List, [], ◌∷◌, length, take, Option, Some, None, Result, Ok, Err, IfOk, IfSome, refl, sym, ap, subst, arith}
use Rattle.std.specs.Io.KnownBytes.{Appends, Consumes, IsAtEnd, Keeps}
use Rattle.timefd_lang_component.specs.Tree.{Text}
use Rattle.timefd_date_format.specs.declared.field.Unshown.{Unshown}
use Rattle.timefd_parse.specs.Grammar.{is_empty}
use Rattle.timefd_parse.specs.declared.parsing.BorrowedOutput.{BorrowedOutput}
use Rattle.timefd_lint_rewrite.specs.Lines.{without_newline}
use Rattle.timefd_format.specs.declared.fast.batch.Batch.{Batch}
use Rattle.timefd_format.specs.declared.fast.take.BatchTaken.{BatchTaken}
use Rattle.timefd_format.specs.declared.fast.take.BatchTaken.TheVariants as takes
use Rattle.timefd_format.specs.declared.frame.Cell.{Cell}
use Rattle.timefd_format.specs.declared.frame.LineFrame.TheVariants as frames
use Rattle.timefd_format.specs.declared.next_record.NextRecords.{NextRecords}
use Rattle.timefd_format.specs.declared.next_record.NextRecords.TheVariants as nexts
use Rattle.timefd_format.specs.declared.otherwise.Otherwise.{Otherwise}
use Rattle.timefd_format.specs.declared.outcome.WordOutcome.TheVariants as came
use Rattle.timefd_format.specs.declared.outcome.RunError.{RunError}
use Rattle.timefd_format.specs.declared.outcome.WordTally.{WordTally}
use Rattle.timefd_format.specs.declared.records.RecordRead.{RecordRead}
use Rattle.timefd_format.specs.declared.records.RecordRead.TheVariants as reads
use Rattle.timefd_format.specs.declared.source.MomentSource.{MomentSource}
use Rattle.timefd_format.specs.Failures.{IsSourceAfterBatch, IsSourceAfterRecord, IsSourceAfterRecords}
use Rattle.timefd_format.specs.Fields.{IsCell, field_after, fields}
use Rattle.timefd_format.specs.RecordBatches.{AreRecordsShown, AreRecordsTaken, IsNextRecords, IsPlainRecord, IsRecordBatch, IsRecordShownAs, in_cell}
use Rattle.timefd_format.specs.Records.{IsNextRecord, IsRecordRead, is_open}
use Rattle.timefd_format.specs.Tables.{IsRecord, ReplacesRecord, RunsRecordsOver}
use Rattle.timefd_format.specs.Tallies.{at_end, both, refused, tally_of}
use Rattle.timefd_format.specs.Written.{AppendsIn, written_of}
use Rattle.timefd_format.proofs.PlainRecordLemmas.{is_closed, is_next}
use Rattle.timefd_format.proofs.RunLemmas.{none_more}
use Rattle.timefd_format.proofs.TableLemmas.{Completes, record_more, records_end, records_fail}
use Rattle.timefd_format.proofs.TakenLemmas.{AppendsOk, between_appended, between_consumed, kept_consumed}

-- One record of a batch.

in_frame : (x : Result Text Unshown) (cell : Cell) (before after : Option Text)
    → AppendsOk (in_cell cell x) before after → AppendsIn (frames.Field cell) x before after
in_frame (Ok text) cell before after sent = sent
in_frame (Err u) cell before after sent = absurd sent

no_field : (n : ℕ) (field : Text) → field_after n ([] ∷ []) ≡ Some field → field ≡ []
no_field zero [] is = refl
no_field zero (b ∷ bs) is = absurd cc
no_field (suc n) field is = absurd cc

pub filled_by : (content field : Text) (n : ℕ) → (field ≡ [] → ⊥) → field_after n (fields content) ≡ Some field
    → is_empty content ≡ false
filled_by [] field n some is = absurd (some (no_field n field is))
filled_by (b ∷ bs) field n some is = refl

is_record : (otherwise : Otherwise) (source : MomentSource) (o : BorrowedOutput) (n : ℕ) (row shown : Text)
    (before after : Option Text) → IsPlainRecord row → IsRecordShownAs source o n row shown
    → Appends before after shown → IsRecord otherwise source o n row before after (at_end false)
is_record otherwise source o n row shown before after plain is sent =
    let framed : AppendsIn (frames.Field is.0) (written_of is.1 o) before after =
    in_frame (written_of is.1 o) is.0 before after (subst (λ x. AppendsOk x before after) (sym is.5) sent) in
    let found : field_after n (fields (without_newline row)) ≡ Some is.0.field.now = is.2.0 in
    let some : is_empty (without_newline row) ≡ false = filled_by (without_newline row) is.0.field.now n is.3 found in
    rw (is_closed row plain) (rw some (rw found (is.0, is.2, (came.Written is.1, (is.4, framed), refl))))

shown_more : (otherwise : Otherwise) (source : MomentSource) (o : BorrowedOutput) (n : ℕ) (bytes left rest : Option Text)
    (row shown : Text) (before between next : Option Text) (tally : WordTally)
    → Completes otherwise source o n bytes left before between tally → IsPlainRecord row
    → IsRecordShownAs source o n row shown → Consumes left rest row → Appends between next shown
    → Completes otherwise source o n bytes rest before next tally
shown_more otherwise source o n bytes left rest row shown before between next tally so_far plain is consumed sent =
    subst (λ t. Completes otherwise source o n bytes rest before next t) (none_more tally)
    (record_more otherwise source o n bytes left rest row before between next tally (at_end false)
    (both tally (at_end false)) so_far (is_next left rest row plain consumed)
    (is_record otherwise source o n row shown between next plain is sent) refl)

-- A batch of one record, and of more.
records_more : (otherwise : Otherwise) (source : MomentSource) (o : BorrowedOutput) (n k : ℕ) (read written : Text)
    (bytes left rest before between next : Option Text) (tally : WordTally)
    → Completes otherwise source o n bytes left before between tally
    → AreRecordsShown source o n (suc k) read written → Consumes left rest read → Appends between next written
    → Completes otherwise source o n bytes rest before next tally
records_more otherwise source o n zero read written bytes left rest before between next tally so_far are consumed sent =
    shown_more otherwise source o n bytes left rest are.1 are.3 before between next tally so_far are.5 are.6
    (subst (Consumes left rest) (are.7 ∙ ap (λ front. front ++ are.1) are.4.0) consumed)
    (subst (Appends between next) (are.8 ∙ ap (λ done. done ++ are.3) are.4.1) sent)
records_more otherwise source o n (suc k) read written bytes left rest before between next tally so_far are consumed sent =
    let mid = between_consumed left rest are.0 are.1 (subst (Consumes left rest) are.7 consumed) in
    let then = between_appended between next are.2 are.3 (subst (Appends between next) are.8 sent) in
    shown_more otherwise source o n bytes mid.0 rest are.1 are.3 before then.0 next tally
    (records_more otherwise source o n k are.0 are.2 bytes left mid.0 before between then.0 tally so_far are.4 mid.1 then.1)
    are.5 are.6 mid.2 then.2

some_more : (otherwise : Otherwise) (source : MomentSource) (o : BorrowedOutput) (n k : ℕ) (read written : Text)
    (bytes left rest before between next : Option Text) (tally : WordTally) → 1 ≤ k
    → Completes otherwise source o n bytes left before between tally
    → AreRecordsShown source o n k read written → Consumes left rest read → Appends between next written
    → Completes otherwise source o n bytes rest before next tally
some_more otherwise source o n zero read written bytes left rest before between next tally some so_far are consumed sent =
    absurd (omega (arith, some))
some_more otherwise source o n (suc k) read written bytes left rest before between next tally some so_far are consumed sent =
    records_more otherwise source o n k read written bytes left rest before between next tally so_far are consumed sent

-- What comes next in a table.

pub batch_more : (otherwise : Otherwise) (source : MomentSource) (o : BorrowedOutput) (n : ℕ)
    (bytes left rest before between after : Option Text) (tally : WordTally) (k : ℕ) (r : NextRecords) → r ≡ nexts.Batch k
    → Completes otherwise source o n bytes left before between tally
    → IsNextRecords otherwise source o n left rest between after r
    → Completes otherwise source o n bytes rest before after tally
batch_more otherwise source o n bytes left rest before between after tally k r is so_far took =
    let records = subst (λ x. IsNextRecords otherwise source o n left rest between after x) is took in
    some_more otherwise source o n k records.0 records.1 bytes left rest before between after tally records.2 so_far
    records.3 records.4 records.5

pub next_more : (otherwise : Otherwise) (source : MomentSource) (o : BorrowedOutput) (n lines : ℕ)
    (bytes left rest before between after : Option Text) (tally one sum : WordTally) (r : NextRecords)
    → r ≡ nexts.Record one lines → Completes otherwise source o n bytes left before between tally
    → IsNextRecords otherwise source o n left rest between after r → sum ≡ both tally one
    → Completes otherwise source o n bytes rest before after sum
next_more otherwise source o n lines bytes left rest before between after tally one sum r is so_far looked is_sum =
    let row = subst (λ x. IsNextRecords otherwise source o n left rest between after x) is looked in
    record_more otherwise source o n bytes left rest row.0 before between after tally one sum so_far row.2 row.1 is_sum

pub next_ends : (otherwise : Otherwise) (source : MomentSource) (o : BorrowedOutput) (n : ℕ)
    (bytes left rest before between after : Option Text) (tally : WordTally) (r : NextRecords) → r ≡ nexts.End
    → Completes otherwise source o n bytes left before between tally
    → IsNextRecords otherwise source o n left rest between after r
    → RunsRecordsOver otherwise source o n bytes before after tally
next_ends otherwise source o n bytes left rest before between after tally r is so_far looked =
    let end = subst (λ x. IsNextRecords otherwise source o n left rest between after x) is looked in
    subst (λ a. RunsRecordsOver otherwise source o n bytes before a tally) (sym end.0)
    (records_end otherwise source o n bytes left before between tally so_far end.1)

pub next_fails : (otherwise : Otherwise) (source : MomentSource) (o : BorrowedOutput) (n : ℕ)
    (bytes left rest before between after : Option Text) (tally failing sum : WordTally) (r : NextRecords)
    → r ≡ nexts.Failed → Completes otherwise source o n bytes left before between tally
    → IsNextRecords otherwise source o n left rest between after r → failing ≡ at_end true
    → sum ≡ both tally failing → RunsRecordsOver otherwise source o n bytes before after sum
next_fails otherwise source o n bytes left rest before between after tally failing sum r is so_far looked fails is_sum =
    let same = subst (λ x. IsNextRecords otherwise source o n left rest between after x) is looked in
    subst (λ a. RunsRecordsOver otherwise source o n bytes before a sum) (sym same)
    (records_fail otherwise source o n bytes left before between tally failing sum so_far fails is_sum)

-- What comes next is a batch, or else what comes next after none.

pub batch_next : (otherwise : Otherwise) (source : MomentSource) (o : BorrowedOutput) (n : ℕ)
    (old new before after : Option Text) (k : ℕ) (t : BatchTaken) → t ≡ takes.Lines k
    → AreRecordsTaken source o n old new before after t
    → IsNextRecords otherwise source o n old new before after (nexts.Batch k)
batch_next otherwise source o n old new before after k t is taken =
    subst (λ x. AreRecordsTaken source o n old new before after x) is taken

pub end_next : (otherwise : Otherwise) (source : MomentSource) (o : BorrowedOutput) (n : ℕ)
    (old new before after : Option Text) (t : BatchTaken) → t ≡ takes.End
    → AreRecordsTaken source o n old new before after t
    → IsNextRecords otherwise source o n old new before after nexts.End
end_next otherwise source o n old new before after t is taken =
    subst (λ x. AreRecordsTaken source o n old new before after x) is taken

pub failed_next : (otherwise : Otherwise) (source : MomentSource) (o : BorrowedOutput) (n : ℕ)
    (old new before after : Option Text) (t : BatchTaken) → t ≡ takes.Failed
    → AreRecordsTaken source o n old new before after t
    → IsNextRecords otherwise source o n old new before after nexts.Failed
failed_next otherwise source o n old new before after t is taken =
    subst (λ x. AreRecordsTaken source o n old new before after x) is taken

kept_next : (otherwise : Otherwise) (source : MomentSource) (o : BorrowedOutput) (n : ℕ)
    (old mid new before after : Option Text) (r : NextRecords) → Keeps old mid
    → IsNextRecords otherwise source o n mid new before after r
    → IsNextRecords otherwise source o n old new before after r
kept_next otherwise source o n None mid new before after (nexts.Batch k) same is = (is.0, is.1, is.2, is.3, tt, is.5)
kept_next otherwise source o n None mid new before after (nexts.Record t lines) same is = (is.0, is.1, tt)
kept_next otherwise source o n None mid new before after nexts.End same is = (is.0, tt)
kept_next otherwise source o n None mid new before after nexts.Failed same is = is
kept_next otherwise source o n (Some x) None new before after r same is = absurd same
kept_next otherwise source o n (Some x) (Some y) new before after r same is =
    subst (λ z. IsNextRecords otherwise source o n (Some z) new before after r) same is

pub nothing_next : (otherwise : Otherwise) (source : MomentSource) (o : BorrowedOutput) (n : ℕ)
    (old mid new before between after : Option Text) (t : BatchTaken) (r : Result NextRecords RunError)
    → t ≡ takes.Nothing → AreRecordsTaken source o n old mid before between t
    → IfOk r (IsNextRecords otherwise source o n mid new between after)
    → IfOk r (IsNextRecords otherwise source o n old new before after)
nothing_next otherwise source o n old mid new before between after t (Err e) is taken next = tt
nothing_next otherwise source o n old mid new before between after t (Ok r) is taken next =
    let nothing = subst (λ x. AreRecordsTaken source o n old mid before between x) is taken in
    kept_next otherwise source o n old mid new before after r nothing.1
    (subst (λ b. IsNextRecords otherwise source o n mid new b after r) nothing.0 next)

-- A record that is looked at by itself.

pub record_looked : (otherwise : Otherwise) (source : MomentSource) (o : BorrowedOutput) (n lines : ℕ)
    (old new before after : Option Text) (row : Text) (one : WordTally) (r : RecordRead) → r ≡ reads.Record lines
    → IsRecordRead old new row r → IsRecord otherwise source o n row before after one
    → IsNextRecords otherwise source o n old new before after (nexts.Record one lines)
record_looked otherwise source o n lines old new before after row one r is read done =
    (row, done, (subst (λ x. IsRecordRead old new row x) is read).0)

pub open_looked : (otherwise : Otherwise) (source : MomentSource) (o : BorrowedOutput) (n lines : ℕ)
    (old new before after : Option Text) (row : Text) (one : WordTally) (r : RecordRead) → r ≡ reads.Open
    → IsRecordRead old new row r → ReplacesRecord otherwise row before after → one ≡ refused
    → IsNextRecords otherwise source o n old new before after (nexts.Record one lines)
open_looked otherwise source o n lines old new before after row one r is read replaced one_is =
    let at : IsRecordRead old new row reads.Open = subst (λ x. IsRecordRead old new row x) is read in
    (row, rw at.1 (replaced, one_is), at.0)

pub no_record_looked : (otherwise : Otherwise) (source : MomentSource) (o : BorrowedOutput) (n : ℕ)
    (old new before : Option Text) (row : Text) (r : RecordRead) → r ≡ reads.End → IsRecordRead old new row r
    → IsNextRecords otherwise source o n old new before before nexts.End
no_record_looked otherwise source o n old new before row r is read =
    (refl, subst (λ x. IsRecordRead old new row x) is read)

-- What `fill`, a write and `consume` do together.

pub batch_taken : (source : MomentSource) (o : BorrowedOutput) (n : ℕ) (old mid new before after : Option Text)
    (text buffer room : Text) (batch : Batch) → IsRecordBatch source o n text room batch → 1 ≤ batch.line_count
    → Keeps old mid → text ≡ buffer → Consumes mid new (take batch.read buffer)
    → Appends before after (take batch.written room)
    → AreRecordsTaken source o n old new before after (takes.Lines batch.line_count)
batch_taken source o n old mid new before after text buffer room batch of_batch some kept is consumed sent = (
  take batch.read text,
  take batch.written room,
  some,
  of_batch.0,
  kept_consumed old mid new (take batch.read text) kept
      (subst (λ b. Consumes mid new (take batch.read b)) (sym is) consumed),
  sent,
)

-- What the source is after the next records, if no batch of them was taken.
pub source_after : (old mid new : ℕ) (failed failed_first : Bool) (t : BatchTaken) (r : Result NextRecords RunError)
    → t ≡ takes.Nothing → IsSourceAfterBatch old mid failed_first t → IfOk r (IsSourceAfterRecords mid new failed)
    → IfOk r (IsSourceAfterRecords old new failed)
source_after old mid new failed failed_first t (Err e) is first after = tt
source_after old mid new failed failed_first t (Ok (nexts.Batch k)) is first after =
    let few : mid ≤ old = subst (λ x. IsSourceAfterBatch old mid failed_first x) is first in omega (arith, few, after)
source_after old mid new failed failed_first t (Ok (nexts.Record tally lines)) is first after =
    let few : mid ≤ old = subst (λ x. IsSourceAfterBatch old mid failed_first x) is first in
    (omega (arith, few, after.0), after.1)
source_after old mid new failed failed_first t (Ok nexts.End) is first after = tt
source_after old mid new failed failed_first t (Ok nexts.Failed) is first after = after

-- What the source is after a record that was looked at by itself.

pub source_after_record : (old new k lines : ℕ) (failed : Bool) (one : WordTally) (r : RecordRead)
    → r ≡ reads.Record k → IsSourceAfterRecord old new failed r → one.has_failed ≡ false
    → IsSourceAfterRecords old new failed (nexts.Record one lines)
source_after_record old new k lines failed one r is after read =
    (subst (λ x. IsSourceAfterRecord old new failed x) is after, read)

pub source_after_open : (old new lines : ℕ) (failed : Bool) (one : WordTally) (r : RecordRead) → r ≡ reads.Open
    → IsSourceAfterRecord old new failed r → one ≡ refused
    → IsSourceAfterRecords old new failed (nexts.Record one lines)
source_after_open old new lines failed one r is after one_is =
    (subst (λ x. IsSourceAfterRecord old new failed x) is after, ap (λ t. t.has_failed) one_is)

pub source_failed : (old new : ℕ) (failed : Bool) (r : RecordRead) → r ≡ reads.Failed
    → IsSourceAfterRecord old new failed r → IsSourceAfterRecords old new failed nexts.Failed
source_failed old new failed r is after = subst (λ x. IsSourceAfterRecord old new failed x) is after

-- A record that was looked at is no failed read.
pub record_read : (old new lines : ℕ) (failed : Bool) (tally : WordTally) (r : NextRecords)
    → r ≡ nexts.Record tally lines → IsSourceAfterRecords old new failed r → tally.has_failed ≡ false
record_read old new lines failed tally r is after =
    (subst (λ x. IsSourceAfterRecords old new failed x) is after).1
