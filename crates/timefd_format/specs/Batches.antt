-- Lines that are read and written many at once.
use Rattle.std.specs.Prelude.{ℕ, zero, suc, ◌≡◌, ◌≢◌, ◌≤◌, ◌++◌, List, [], All, codes, length, take, Option, Some, None, Result, Ok, Err, ⊤}
use Rattle.std.specs.Io.KnownBytes.{Appends, Consumes, IsAtEnd, Keeps}
use Rattle.timefd_lang_component.specs.Tree.{Text}
use Rattle.timefd_date_format.specs.Appends.{IsAppended, IsKept}
use Rattle.timefd_date_format.specs.declared.field.Unshown.{Unshown}
use Rattle.timefd_date_moment.specs.declared.moment.Moment.{Moment}
use Rattle.timefd_parse.specs.declared.parsing.BorrowedOutput.{BorrowedOutput}
use Rattle.timefd_lint_rewrite.specs.Lines.{IsNextLine, without_newline}
use Rattle.timefd_format.specs.declared.fast.batch.Batch.{Batch}
use Rattle.timefd_format.specs.declared.fast.take.BatchTaken.{BatchTaken}
use Rattle.timefd_format.specs.declared.fast.take.BatchTaken.TheVariants as takes
use Rattle.timefd_format.specs.declared.frame.LineFrame.TheVariants as frames
use Rattle.timefd_format.specs.declared.lines.NextLine.{NextLine}
use Rattle.timefd_format.specs.declared.lines.NextLine.TheVariants as next
use Rattle.timefd_format.specs.declared.otherwise.Otherwise.{Otherwise}
use Rattle.timefd_format.specs.declared.source.MomentSource.{MomentSource}
use Rattle.timefd_format.specs.Sources.{IsMomentIn}
use Rattle.timefd_format.specs.Written.{IsTallyOf, written_of}

-- A text without a newline, and a newline.
abbrev pub IsWholeLine : Text → Type 0
IsWholeLine line = (text : Text) × All (λ b. b ≢ 10) text × (line ≡ text ++ codes "\n")

-- the text of a moment, and a newline
abbrev pub with_newline : Result Text Unshown → Result Text Unshown
with_newline (Ok text) = Ok (text ++ codes "\n")
with_newline (Err u) = Err u

-- The line names or shows a moment, and this is the line of that moment.
abbrev pub IsShownAs : MomentSource → BorrowedOutput → Text → Text → Type 0
IsShownAs source o line shown = (m : Moment) × IsMomentIn source o line (Ok m)
    × (with_newline (written_of m o) ≡ Ok shown)

-- This many whole lines are read, and what is written are the lines of their moments, one after another.
abbrev pub AreLinesShown : MomentSource → BorrowedOutput → ℕ → Text → Text → Type 0
AreLinesShown source o zero read written = (read ≡ []) × (written ≡ [])
AreLinesShown source o (suc n) read written = (front : Text) × (line : Text) × (done : Text) × (shown : Text)
    × AreLinesShown source o n front done × IsWholeLine line × IsShownAs source o (without_newline line) shown
    × (read ≡ front ++ line) × (written ≡ done ++ shown)

-- The line of a line's moment is appended. If it isn't, only what is in front is promised to be as it was.
abbrev pub TriesToAppendLine : MomentSource → BorrowedOutput → Text → Text → ℕ → Text → Option ℕ → Type 0
TriesToAppendLine source o line old at new None = IsKept old at new
TriesToAppendLine source o line old at new (Some end) = (shown : Text) × IsShownAs source o line shown
    × IsAppended shown old at new end

abbrev pub no_batch : Batch
no_batch = record { line_count = 0; read = 0; written = 0 }

-- The lines at the front of a text, and what is written for them at the front of a room.
abbrev pub IsBatch : MomentSource → BorrowedOutput → Text → Text → Batch → Type 0
IsBatch source o text room batch =
    AreLinesShown source o batch.line_count (take batch.read text) (take batch.written room)
    × (batch.line_count ≤ batch.read) × (batch.read ≤ length text) × (batch.written ≤ length room)

-- The batch grows. If it doesn't, it stays what it is.
abbrev pub TriesToGrow : MomentSource → BorrowedOutput → Text → Batch → Text → Option Batch → Type 0
TriesToGrow source o text batch room None = IsBatch source o text room batch
TriesToGrow source o text batch room (Some more) = IsBatch source o text room more

-- how many bytes are reserved for what a batch writes
abbrev pub batch_room : ℕ
batch_room = 65536

-- What taking a batch does to what a reader has left and to what is written.
abbrev pub IsTaken : MomentSource → BorrowedOutput → Option Text → Option Text → Option Text → Option Text → BatchTaken
    → Type 0
IsTaken source o old new before after (takes.Lines n) = (read : Text) × (written : Text)
    × (1 ≤ n) × AreLinesShown source o n read written × Consumes old new read × Appends before after written
IsTaken source o old new before after takes.Nothing = (after ≡ before) × Keeps old new
IsTaken source o old new before after takes.End = (after ≡ before) × IsAtEnd old
IsTaken source o old new before after takes.Failed = after ≡ before

-- What the next lines do: those of a batch, or one that is looked at by itself.
abbrev pub IsNext : Otherwise → MomentSource → BorrowedOutput → Option Text → Option Text → Option Text → Option Text
    → NextLine → Type 0
IsNext otherwise source o old new before after (next.Lines n) = (read : Text) × (written : Text)
    × (1 ≤ n) × AreLinesShown source o n read written × Consumes old new read × Appends before after written
IsNext otherwise source o old new before after (next.Line tally) = (line : Text)
    × IsTallyOf otherwise source o frames.Line (without_newline line) before after tally
    × IsNextLine old line new
IsNext otherwise source o old new before after next.End = (after ≡ before) × IsAtEnd old
IsNext otherwise source o old new before after next.Failed = after ≡ before
