-- What is reported of one more line, and the number that it has.
use Rattle.std.proofs.Common.{ℕ, zero, suc, ◌≡◌, ◌∙◌, ◌++◌, ◌<◌, ◌≤◌, ◌+◌, Bool, true, false, List, [], ◌∷◌, length, map, min, Option, Some, None, Result, Ok, Err, IfOk, refl, sym, ap, subst, arith}
use denote.Ref.{Bor}
use Rattle.std.specs.Io.Iter.{u64_saturate}
use Rattle.std.specs.Io.KnownBytes.{Appends, Consumes, IsAtEnd, Keeps}
use Rattle.timefd_lang_component.specs.Tree.{Text}
use Rattle.timefd_lint_diagnosis.specs.Words.{texts}
use Rattle.timefd_lint_drawing.specs.People.{for_people}
use Rattle.timefd_date_format.specs.declared.field.Unshown.{Unshown}
use Rattle.timefd_date_moment.specs.declared.moment.Moment.{Moment}
use Rattle.timefd_parse.specs.declared.parsing.BorrowedOutput.{BorrowedOutput}
use Rattle.timefd_lint_rewrite.specs.Lines.{AreLinesOf, IsNextLine, without_newline}
use Rattle.timefd_format.specs.declared.fast.take.BatchTaken.{BatchTaken}
use Rattle.timefd_format.specs.declared.fast.take.BatchTaken.TheVariants as takes
use Rattle.timefd_format.specs.declared.frame.LineFrame.{LineFrame}
use Rattle.timefd_format.specs.declared.lines.LineRead.{LineRead}
use Rattle.timefd_format.specs.declared.lines.LineRead.TheVariants as reads
use Rattle.timefd_format.specs.declared.lines.NextLine.{NextLine}
use Rattle.timefd_format.specs.declared.lines.NextLine.TheVariants as nexts
use Rattle.timefd_format.specs.declared.moment.MomentError.{MomentError}
use Rattle.timefd_format.specs.declared.otherwise.Otherwise.{Otherwise}
use Rattle.timefd_format.specs.declared.outcome.WordOutcome.{WordOutcome}
use Rattle.timefd_format.specs.declared.outcome.WordOutcome.TheVariants as came
use Rattle.timefd_format.specs.declared.outcome.RunError.{RunError}
use Rattle.timefd_format.specs.declared.outcome.WordTally.{WordTally}
use Rattle.timefd_format.specs.declared.source.MomentSource.{MomentSource}
use Rattle.timefd_format.specs.Batches.{AreLinesShown, IsShownAs, IsTaken, IsWholeLine, with_newline}
use Rattle.timefd_format.specs.LineReports.{AreReportsOf, IsOutcome, IsReportOf, IsShown, ReportsLines, ReportsLinesFrom, ReportsMoment, ReportsNext, ReportsOutcome, ReportsWord, ReportsWords, line_after, not_text}
use Rattle.timefd_format.specs.Messages.{IsUnreadMessage, unshown_message}
use Rattle.timefd_format.specs.Reports.{Gets}
use Rattle.timefd_format.specs.Written.{AppendsIn, IsOne, IsRead, written_of}
use Rattle.timefd_format.proofs.ReportLemmas.{gets_more, gets_nothing}
use Rattle.timefd_format.proofs.RunLemmas.{more_lines, no_line_left, no_line_read, none_left}
use Rattle.timefd_format.proofs.TakenLemmas.{between_consumed, next_line}

-- One word.

pub nothing_reported : (word : Text) (m : Moment) (before : Option Text) (failed : Bool)
    → ReportsMoment word (came.Written m) before before failed failed
nothing_reported word m before failed = gets_nothing before failed

pub unshown_reported : (word : Text) (m : Moment) (u : Unshown) (message : Text) (before after : Option Text)
    (had_failed failed : Bool) → message ≡ unshown_message word u
    → Gets (for_people false message) before after had_failed failed
    → ReportsMoment word (came.Unshown m u) before after had_failed failed
unshown_reported word m u message before after had_failed failed is gets =
    subst (λ t. Gets (for_people false t) before after had_failed failed) is gets

pub moment_reported : (source : MomentSource) (number : Option ℕ) (word text : Text) (before after : Option Text)
    (had_failed failed : Bool) (r : Result WordOutcome RunError) → text ≡ word
    → IfOk r (λ outcome. ReportsMoment text outcome before after had_failed failed)
    → IfOk r (λ outcome. ReportsOutcome source number word outcome before after had_failed failed)
moment_reported source number word text before after had_failed failed (Ok (came.Written m)) same is = ([], refl, is)
moment_reported source number word text before after had_failed failed (Ok (came.Unshown m u)) same is =
    (for_people false (unshown_message text u), ap (λ w. for_people false (unshown_message w u)) same, is)
moment_reported source number word text before after had_failed failed (Ok (came.Unread e)) same is = absurd is
moment_reported source number word text before after had_failed failed (Ok came.NotText) same is = absurd is
moment_reported source number word text before after had_failed failed (Err e) same is = tt

pub not_text_reported : (source : MomentSource) (number : Option ℕ) (word message : Text) (before after : Option Text)
    (had_failed failed : Bool) → message ≡ not_text
    → Gets (for_people false message) before after had_failed failed
    → ReportsOutcome source number word came.NotText before after had_failed failed
not_text_reported source number word message before after had_failed failed is gets =
    (for_people false message, ap (for_people false) is, gets)

pub unread_reported : (source : MomentSource) (number : Option ℕ) (word text : Text) (e : MomentError) (message : Text)
    (before after : Option Text) (had_failed failed : Bool) → text ≡ word
    → IsUnreadMessage source number text e message
    → Gets (for_people false message) before after had_failed failed
    → ReportsOutcome source number word (came.Unread e) before after had_failed failed
unread_reported source number word text e message before after had_failed failed same is gets =
    (for_people false message, (message, subst (λ w. IsUnreadMessage source number w e message) same is, refl), gets)

shown_of : (frame : LineFrame) (x : Result Text Unshown) (before after : Option Text) → AppendsIn frame x before after
    → IsShown x
shown_of frame (Ok text) before after sent = tt
shown_of frame (Err u) before after sent = absurd sent

outcome_of : (otherwise : Otherwise) (source : MomentSource) (o : BorrowedOutput) (frame : LineFrame) (word : Text)
    (before after : Option Text) (outcome : WordOutcome) → IsOne otherwise source o frame word before after outcome
    → IsOutcome source o word outcome
outcome_of otherwise source o frame word before after (came.Written m) is =
    (is.0, shown_of frame (written_of m o) before after is.1)
outcome_of otherwise source o frame word before after (came.Unshown m u) is = (is.0, is.1)
outcome_of otherwise source o frame word before after (came.Unread e) is = is.0
outcome_of otherwise source o frame word before after came.NotText is = is.0

pub word_reported : (otherwise : Otherwise) (source : MomentSource) (o : BorrowedOutput) (frame : LineFrame) (number : Option ℕ)
    (word : Text) (written_before written_after before after : Option Text) (had_failed failed : Bool)
    (outcome : WordOutcome) → IsOne otherwise source o frame word written_before written_after outcome
    → ReportsOutcome source number word outcome before after had_failed failed
    → ReportsWord source o number word before after had_failed failed
word_reported otherwise source o frame number word written_before written_after before after had_failed failed outcome
    one reported = (
      reported.0,
      (outcome, outcome_of otherwise source o frame word written_before written_after outcome one, reported.1),
      reported.2,
    )

-- What comes next is a batch, or a line that is looked at by itself, or none.

pub batch_reported : (source : MomentSource) (o : BorrowedOutput) (number : ℕ)
    (old new written_before written_after before : Option Text) (failed : Bool) (n : ℕ) (t : BatchTaken)
    → t ≡ takes.Lines n → IsTaken source o old new written_before written_after t
    → ReportsNext source o number old new before before failed failed (nexts.Lines n)
batch_reported source o number old new written_before written_after before failed n t is taken =
    let lines = subst (λ x. IsTaken source o old new written_before written_after x) is taken in
    (lines.0, lines.1, lines.2, lines.3, lines.4, gets_nothing before failed)

pub end_reported : (source : MomentSource) (o : BorrowedOutput) (number : ℕ)
    (old new written_before written_after before : Option Text) (failed : Bool) (t : BatchTaken) → t ≡ takes.End
    → IsTaken source o old new written_before written_after t
    → ReportsNext source o number old new before before failed failed nexts.End
end_reported source o number old new written_before written_after before failed t is taken =
    ((subst (λ x. IsTaken source o old new written_before written_after x) is taken).1, gets_nothing before failed)

pub failure_reported : (source : MomentSource) (o : BorrowedOutput) (number : ℕ) (old new before : Option Text)
    (failed : Bool) → ReportsNext source o number old new before before failed failed nexts.Failed
failure_reported source o number old new before failed = gets_nothing before failed

kept_reports : (source : MomentSource) (o : BorrowedOutput) (number : ℕ) (old mid new before after : Option Text)
    (had_failed failed : Bool) (n : NextLine) → Keeps old mid
    → ReportsNext source o number mid new before after had_failed failed n
    → ReportsNext source o number old new before after had_failed failed n
kept_reports source o number None mid new before after had_failed failed (nexts.Lines n) same is =
    (is.0, is.1, is.2, is.3, tt, is.5)
kept_reports source o number None mid new before after had_failed failed (nexts.Line t) same is = (is.0, tt, is.2)
kept_reports source o number None mid new before after had_failed failed nexts.End same is = (tt, is.1)
kept_reports source o number None mid new before after had_failed failed nexts.Failed same is = is
kept_reports source o number (Some x) None new before after had_failed failed n same is = absurd same
kept_reports source o number (Some x) (Some y) new before after had_failed failed n same is =
    subst (λ z. ReportsNext source o number (Some z) new before after had_failed failed n) same is

pub after_nothing : (source : MomentSource) (o : BorrowedOutput) (number : ℕ)
    (old mid new written_before written_after before after : Option Text) (had_failed failed : Bool) (t : BatchTaken)
    (r : Result NextLine RunError) → t ≡ takes.Nothing → IsTaken source o old mid written_before written_after t
    → IfOk r (ReportsNext source o number mid new before after had_failed failed)
    → IfOk r (ReportsNext source o number old new before after had_failed failed)
after_nothing source o number old mid new written_before written_after before after had_failed failed t (Err e) is taken
    next = tt
after_nothing source o number old mid new written_before written_after before after had_failed failed t (Ok n) is taken
    next =
    kept_reports source o number old mid new before after had_failed failed n
    (subst (λ x. IsTaken source o old mid written_before written_after x) is taken).1 next

pub line_reported : (source : MomentSource) (o : BorrowedOutput) (number : ℕ) (old new before after : Option Text)
    (had_failed failed : Bool) (line word : Text) (one : WordTally) (r : LineRead) → r ≡ reads.Line
    → IsRead old new line r → word ≡ without_newline line
    → ReportsWord source o (Some number) word before after had_failed failed
    → ReportsNext source o number old new before after had_failed failed (nexts.Line one)
line_reported source o number old new before after had_failed failed line word one r is read without reported = (
  line,
  subst (λ x. IsRead old new line x) is read,
  subst (λ w. ReportsWord source o (Some number) w before after had_failed failed) without reported,
)

pub no_line_reported : (source : MomentSource) (o : BorrowedOutput) (number : ℕ) (old new before : Option Text)
    (failed : Bool) (line : Text) (r : LineRead) → r ≡ reads.End → IsRead old new line r
    → ReportsNext source o number old new before before failed failed nexts.End
no_line_reported source o number old new before failed line r is read =
    (subst (λ x. IsRead old new line x) is read, gets_nothing before failed)

-- Reporting the rest of the lines, from this number on, after what is reported reports all.
abbrev pub CompletesReports : MomentSource → BorrowedOutput → ℕ → ℕ → Option Text → Option Text → Option Text → Option Text
    → Bool → Bool → Type 0
CompletesReports source o first number bytes left before between had_failed has_failed = (unread : Bool)
    (after : Option Text) (failed : Bool)
    → ReportsLinesFrom source o number unread left between after has_failed failed
    → ReportsLinesFrom source o first unread bytes before after had_failed failed

pub starts : (source : MomentSource) (o : BorrowedOutput) (number : ℕ) (bytes before : Option Text) (failed : Bool)
    → CompletesReports source o number number bytes bytes before before failed failed
starts source o number bytes before had_failed unread after failed more = more

one_more : (source : MomentSource) (o : BorrowedOutput) (first number : ℕ) (bytes left rest : Option Text) (line : Text)
    (before between next : Option Text) (had_failed has_failed then_failed : Bool)
    → CompletesReports source o first number bytes left before between had_failed has_failed
    → IsNextLine left line rest
    → ReportsWord source o (Some number) (without_newline line) between next has_failed then_failed
    → CompletesReports source o first (line_after number 1) bytes rest before next had_failed then_failed
one_more source o first number bytes left rest line before between next had_failed has_failed then_failed so_far read
    reported unread after failed more =
    so_far unread after failed (
      line ∷ more.0,
      reported.0 ++ more.1,
      more_lines left rest line more.0 unread read more.2,
      (reported.0, more.1, reported.1, more.3, refl),
      gets_more reported.0 more.1 between next after has_failed then_failed failed reported.2 more.4,
    )

-- Nothing is reported meanwhile.
silent : (source : MomentSource) (o : BorrowedOutput) (first number : ℕ) (bytes left before between next : Option Text)
    (had_failed has_failed then_failed : Bool)
    → CompletesReports source o first number bytes left before between had_failed has_failed
    → Gets [] between next has_failed then_failed
    → CompletesReports source o first number bytes left before next had_failed then_failed
silent source o first number bytes left before between next had_failed has_failed then_failed so_far gets unread after
    failed more =
    so_far unread after failed (
      more.0,
      more.1,
      more.2,
      more.3,
      gets_more [] more.1 between next after has_failed then_failed failed gets more.4,
    )

-- A batch.

shown_by : (x : Result Text Unshown) (shown : Text) → with_newline x ≡ Ok shown → IsShown x
shown_by (Ok text) shown is = tt
shown_by (Err u) shown is = absurd cc

shown_more : (source : MomentSource) (o : BorrowedOutput) (first number : ℕ) (bytes left rest : Option Text)
    (line shown : Text) (before between : Option Text) (had_failed has_failed : Bool)
    → CompletesReports source o first number bytes left before between had_failed has_failed → IsWholeLine line
    → IsShownAs source o (without_newline line) shown → Consumes left rest line
    → CompletesReports source o first (line_after number 1) bytes rest before between had_failed has_failed
shown_more source o first number bytes left rest line shown before between had_failed has_failed so_far whole is
    consumed =
    one_more source o first number bytes left rest line before between between had_failed has_failed has_failed so_far
    (next_line left rest line whole consumed)
    ([], (came.Written is.0, (is.1, shown_by (written_of is.0 o) shown is.2), refl), gets_nothing between has_failed)

pub after_each : (number n : ℕ) → line_after (line_after number (suc n)) 1 ≡ line_after number (suc (suc n))
after_each number n = omega arith

lines_more : (source : MomentSource) (o : BorrowedOutput) (first number n : ℕ) (read written : Text)
    (bytes left rest before between : Option Text) (had_failed has_failed : Bool)
    → CompletesReports source o first number bytes left before between had_failed has_failed
    → AreLinesShown source o (suc n) read written → Consumes left rest read
    → CompletesReports source o first (line_after number (suc n)) bytes rest before between had_failed has_failed
lines_more source o first number zero read written bytes left rest before between had_failed has_failed so_far are
    consumed =
    shown_more source o first number bytes left rest are.1 are.3 before between had_failed has_failed so_far are.5 are.6
    (subst (Consumes left rest) (are.7 ∙ ap (λ front. front ++ are.1) are.4.0) consumed)
lines_more source o first number (suc n) read written bytes left rest before between had_failed has_failed so_far are
    consumed =
    let mid = between_consumed left rest are.0 are.1 (subst (Consumes left rest) are.7 consumed) in
    subst (λ k. CompletesReports source o first k bytes rest before between had_failed has_failed) (after_each number n)
    (shown_more source o first (line_after number (suc n)) bytes mid.0 rest are.1 are.3 before between had_failed
    has_failed
    (lines_more source o first number n are.0 are.2 bytes left mid.0 before between had_failed has_failed so_far are.4
    mid.1) are.5 are.6 mid.2)

some_more : (source : MomentSource) (o : BorrowedOutput) (first number n : ℕ) (read written : Text)
    (bytes left rest before between : Option Text) (had_failed has_failed : Bool) → 1 ≤ n
    → CompletesReports source o first number bytes left before between had_failed has_failed
    → AreLinesShown source o n read written → Consumes left rest read
    → CompletesReports source o first (line_after number n) bytes rest before between had_failed has_failed
some_more source o first number zero read written bytes left rest before between had_failed has_failed some so_far are
    consumed = absurd (omega (arith, some))
some_more source o first number (suc n) read written bytes left rest before between had_failed has_failed some so_far
    are consumed =
    lines_more source o first number n read written bytes left rest before between had_failed has_failed so_far are
    consumed

pub batch_more : (source : MomentSource) (o : BorrowedOutput) (first number later : ℕ)
    (bytes left rest before between next : Option Text) (had_failed has_failed then_failed : Bool) (n : ℕ) (r : NextLine)
    → r ≡ nexts.Lines n → CompletesReports source o first number bytes left before between had_failed has_failed
    → ReportsNext source o number left rest between next has_failed then_failed r → later ≡ line_after number n
    → CompletesReports source o first later bytes rest before next had_failed then_failed
batch_more source o first number later bytes left rest before between next had_failed has_failed then_failed n r is
    so_far reported later_is =
    let lines = subst (λ x. ReportsNext source o number left rest between next has_failed then_failed x) is reported in
    subst (λ k. CompletesReports source o first k bytes rest before next had_failed then_failed) (sym later_is)
    (silent source o first (line_after number n) bytes rest before between next had_failed has_failed then_failed
    (some_more source o first number n lines.0 lines.1 bytes left rest before between had_failed has_failed lines.2
    so_far lines.3 lines.4) lines.5)

pub line_more : (source : MomentSource) (o : BorrowedOutput) (first number later : ℕ)
    (bytes left rest before between next : Option Text) (had_failed has_failed then_failed : Bool) (one : WordTally)
    (r : NextLine) → r ≡ nexts.Line one
    → CompletesReports source o first number bytes left before between had_failed has_failed
    → ReportsNext source o number left rest between next has_failed then_failed r → later ≡ line_after number 1
    → CompletesReports source o first later bytes rest before next had_failed then_failed
line_more source o first number later bytes left rest before between next had_failed has_failed then_failed one r is
    so_far reported later_is =
    let line = subst (λ x. ReportsNext source o number left rest between next has_failed then_failed x) is reported in
    subst (λ k. CompletesReports source o first k bytes rest before next had_failed then_failed) (sym later_is)
    (one_more source o first number bytes left rest line.0 before between next had_failed has_failed then_failed so_far
    line.1 line.2)

-- The end of the input, and a read that failed.

pub all_reported : (source : MomentSource) (o : BorrowedOutput) (number : ℕ)
    (bytes left rest before between after : Option Text) (had_failed has_failed failed unread : Bool) (r : NextLine)
    → r ≡ nexts.End → CompletesReports source o 1 number bytes left before between had_failed has_failed
    → ReportsNext source o number left rest between after has_failed failed r → unread ≡ false
    → ReportsLines source o unread bytes before after had_failed failed
all_reported source o number bytes left rest before between after had_failed has_failed failed unread r is so_far
    reported unread_is =
    let end = subst (λ x. ReportsNext source o number left rest between after has_failed failed x) is reported in
    subst (λ u. ReportsLinesFrom source o 1 u bytes before after had_failed failed) (sym unread_is)
    (so_far false after failed ([], [], no_line_left left end.0, refl, end.1))

pub some_reported : (source : MomentSource) (o : BorrowedOutput) (number : ℕ)
    (bytes left rest before between after : Option Text) (had_failed has_failed failed unread : Bool) (r : NextLine)
    → r ≡ nexts.Failed → CompletesReports source o 1 number bytes left before between had_failed has_failed
    → ReportsNext source o number left rest between after has_failed failed r → unread ≡ true
    → ReportsLines source o unread bytes before after had_failed failed
some_reported source o number bytes left rest before between after had_failed has_failed failed unread r is so_far
    reported unread_is =
    let gets = subst (λ x. ReportsNext source o number left rest between after has_failed failed x) is reported in
    subst (λ u. ReportsLinesFrom source o 1 u bytes before after had_failed failed) (sym unread_is)
    (so_far true after failed ([], [], no_line_read left, refl, gets))

-- Words, one after another.
abbrev pub CompletesWords : MomentSource → BorrowedOutput → List Text → List Text → Option Text → Option Text → Bool → Bool
    → Type 0
CompletesWords source o words rest before between had_failed has_failed = (after : Option Text) (failed : Bool)
    → ReportsWords source o rest between after has_failed failed
    → ReportsWords source o words before after had_failed failed

pub words_start : (source : MomentSource) (o : BorrowedOutput) (words : List Text) (before : Option Text) (failed : Bool)
    → CompletesWords source o words words before before failed failed
words_start source o words before had_failed after failed more = more

pub word_more : (source : MomentSource) (o : BorrowedOutput) (words rest others : List Text) (word : Text)
    (before between next : Option Text) (had_failed has_failed then_failed : Bool) → rest ≡ word ∷ others
    → CompletesWords source o words rest before between had_failed has_failed
    → ReportsWord source o None word between next has_failed then_failed
    → CompletesWords source o words others before next had_failed then_failed
word_more source o words rest others word before between next had_failed has_failed then_failed split so_far reported
    after failed more =
    so_far after failed
    (subst (λ ws. ReportsWords source o ws between after has_failed failed) (sym split) (
      reported.0 ++ more.0,
      (reported.0, more.0, reported.1, more.1, refl),
      gets_more reported.0 more.0 between next after has_failed then_failed failed reported.2 more.2,
    ))

pub words_done : (source : MomentSource) (o : BorrowedOutput) (words rest : List (Bor Text)) (before after : Option Text)
    (had_failed failed : Bool) → length rest < 1
    → CompletesWords source o (texts words) (texts rest) before after had_failed failed
    → ReportsWords source o (texts words) before after had_failed failed
words_done source o words rest before after had_failed failed short so_far =
    so_far after failed
    (subst (λ ws. ReportsWords source o (texts ws) after after failed failed) (sym (none_left rest short))
    ([], refl, gets_nothing after failed))
