-- What is reported of lines and words that aren't written, and the number of the line that each message has.
use Rattle.std.specs.Prelude.{ℕ, ◌≡◌, ◌≤◌, ◌+◌, Bool, false, List, [], ◌∷◌, ◌++◌, codes, map, Option, Some, None, Result, Ok, Err, IsUtf8, ⊤}
use Rattle.std.specs.Io.Iter.{u64_saturate}
use Rattle.std.specs.Io.KnownBytes.{Consumes, IsAtEnd}
use Rattle.timefd_lang_component.specs.Tree.{Text}
use Rattle.timefd_lint_drawing.specs.People.{for_people}
use Rattle.timefd_date_format.specs.declared.field.Unshown.{Unshown}
use Rattle.timefd_parse.specs.declared.parsing.BorrowedOutput.{BorrowedOutput}
use Rattle.timefd_lint_rewrite.specs.Lines.{AreLinesOf, IsNextLine, without_newline}
use Rattle.timefd_format.specs.declared.lines.NextLine.{NextLine}
use Rattle.timefd_format.specs.declared.lines.NextLine.TheVariants as nexts
use Rattle.timefd_format.specs.declared.outcome.WordOutcome.{WordOutcome}
use Rattle.timefd_format.specs.declared.outcome.WordOutcome.TheVariants as came
use Rattle.timefd_format.specs.declared.source.MomentSource.{MomentSource}
use Rattle.timefd_format.specs.Batches.{AreLinesShown}
use Rattle.timefd_format.specs.Messages.{IsUnreadMessage, unshown_message}
use Rattle.timefd_format.specs.Reports.{Gets}
use Rattle.timefd_format.specs.Sources.{IsMomentIn}
use Rattle.timefd_format.specs.Written.{written_of}

-- the message for a line that isn't UTF-8
abbrev pub not_text : Text
not_text = codes "timefd_format: a line isn't UTF-8\n"

-- What is reported of a word that has this outcome, with the number of its line if it is in one. Nothing is
-- reported of a moment that is written.
abbrev pub IsReportOn : MomentSource → Option ℕ → Text → WordOutcome → Text → Type 0
IsReportOn source number word (came.Written m) report = report ≡ []
IsReportOn source number word (came.Unshown m u) report = report ≡ for_people false (unshown_message word u)
IsReportOn source number word (came.Unread e) report = (message : Text)
    × IsUnreadMessage source number word e message × (report ≡ for_people false message)
IsReportOn source number word came.NotText report = report ≡ for_people false not_text

-- Each component can show the moment.
abbrev pub IsShown : Result Text Unshown → Type 0
IsShown (Ok text) = ⊤
IsShown (Err u) = ⊥

-- the outcome of a word
abbrev pub IsOutcome : MomentSource → BorrowedOutput → Text → WordOutcome → Type 0
IsOutcome source o word (came.Written m) = IsMomentIn source o word (Ok m) × IsShown (written_of m o)
IsOutcome source o word (came.Unshown m u) = IsMomentIn source o word (Ok m) × (written_of m o ≡ Err u)
IsOutcome source o word (came.Unread e) = IsMomentIn source o word (Err e)
IsOutcome source o word came.NotText = ¬ IsUtf8 word

-- What is reported of a word: a message if it isn't written, and else nothing.
abbrev pub IsReportOf : MomentSource → BorrowedOutput → Option ℕ → Text → Text → Type 0
IsReportOf source o number word report = (outcome : WordOutcome) × IsOutcome source o word outcome
    × IsReportOn source number word outcome report

-- The number of the line that comes after so many, from a line on. It stops at the largest number of 64 bits.
abbrev pub line_after : ℕ → ℕ → ℕ
line_after number count = u64_saturate (number + count)

-- the number of the next line; words have none
abbrev pub next_number : Option ℕ → Option ℕ
next_number None = None
next_number (Some number) = Some (line_after number 1)

-- What is reported of words, one after another: the first of them is in the line with this number, and each other
-- one is in the line after.
abbrev pub AreReportsOf : MomentSource → BorrowedOutput → Option ℕ → List Text → Text → Type 0
AreReportsOf source o number [] reports = reports ≡ []
AreReportsOf source o number (word ∷ words) reports = (one : Text) × (more : Text)
    × IsReportOf source o number word one × AreReportsOf source o (next_number number) words more
    × (reports ≡ one ++ more)

-- The stream of messages gets what is reported of a word that has this outcome.
abbrev pub ReportsOutcome : MomentSource → Option ℕ → Text → WordOutcome → Option Text → Option Text → Bool → Bool → Type 0
ReportsOutcome source number word outcome before after had_failed failed = (report : Text)
    × IsReportOn source number word outcome report × Gets report before after had_failed failed

-- The same of a word that names or shows a moment: a message if a component can't show it, and else nothing.
abbrev pub ReportsMoment : Text → WordOutcome → Option Text → Option Text → Bool → Bool → Type 0
ReportsMoment word (came.Written m) before after had_failed failed = Gets [] before after had_failed failed
ReportsMoment word (came.Unshown m u) before after had_failed failed =
    Gets (for_people false (unshown_message word u)) before after had_failed failed
ReportsMoment word (came.Unread e) before after had_failed failed = ⊥
ReportsMoment word came.NotText before after had_failed failed = ⊥

-- The same of a word, whatever its outcome is.
abbrev pub ReportsWord : MomentSource → BorrowedOutput → Option ℕ → Text → Option Text → Option Text → Bool → Bool
    → Type 0
ReportsWord source o number word before after had_failed failed = (report : Text)
    × IsReportOf source o number word report × Gets report before after had_failed failed

-- The same of words that have no lines.
abbrev pub ReportsWords : MomentSource → BorrowedOutput → List Text → Option Text → Option Text → Bool → Bool → Type 0
ReportsWords source o words before after had_failed failed = (reports : Text)
    × AreReportsOf source o None words reports × Gets reports before after had_failed failed

-- The same of the lines of a reader, from the line with this number on: of all of them, unless a read failed.
abbrev pub ReportsLinesFrom : MomentSource → BorrowedOutput → ℕ → Bool → Option Text → Option Text → Option Text → Bool
    → Bool → Type 0
ReportsLinesFrom source o number unread bytes before after had_failed failed =
    (lines : List Text) × (reports : Text) × AreLinesOf bytes lines unread
    × AreReportsOf source o (Some number) (map without_newline lines) reports
    × Gets reports before after had_failed failed

-- The lines of a reader are counted from 1.
abbrev pub ReportsLines : MomentSource → BorrowedOutput → Bool → Option Text → Option Text → Option Text → Bool → Bool
    → Type 0
ReportsLines source o unread bytes before after had_failed failed =
    ReportsLinesFrom source o 1 unread bytes before after had_failed failed

-- What is reported of the next lines, the first of which has this number: nothing of those of a batch, and a message
-- on one that is looked at by itself, if it isn't written.
abbrev pub ReportsNext : MomentSource → BorrowedOutput → ℕ → Option Text → Option Text → Option Text → Option Text → Bool
    → Bool → NextLine → Type 0
ReportsNext source o number old new before after had_failed failed (nexts.Lines n) = (read : Text) × (written : Text)
    × (1 ≤ n) × AreLinesShown source o n read written × Consumes old new read × Gets [] before after had_failed failed
ReportsNext source o number old new before after had_failed failed (nexts.Line tally) = (line : Text)
    × IsNextLine old line new × ReportsWord source o (Some number) (without_newline line) before after had_failed failed
ReportsNext source o number old new before after had_failed failed nexts.End =
    IsAtEnd old × Gets [] before after had_failed failed
ReportsNext source o number old new before after had_failed failed nexts.Failed =
    Gets [] before after had_failed failed
