-- What a run reports about texts, one after another.
use Rattle.std.specs.Prelude.{◌≡◌, ◌⊎◌, ◌≤◌, ◌-◌, ◌^◌, length, Bool, true, false, ◌||◌, ◌&&◌, IsTrue, List, [], ◌∷◌, ◌++◌, Option, Some, None, is_some, All, IfSome, IsFalse, ⊤, ℕ, ◌+◌, nat_lt, flat_map, if◌then◌else◌}
use Rattle.std.specs.List.{list_any}
use Rattle.std.specs.Io.KnownBytes.{Appends, Keeps, IsAtEnd}
use Rattle.std.specs.Io.Iter.{u64_saturate}
use denote.Ref.{Bor}
use Rattle.timefd_parse.specs.Tree.{Text}
use Rattle.timefd_parse.specs.LanguageType.{Language}
use Rattle.timefd_lint_options.specs.declared.wording.LineLanguage.{LineLanguage}
use Rattle.timefd_lint_warnings.specs.Dialects.Judging.{refusal_drawn, trap_drawn}
use Rattle.timefd_lint_diagnosis.specs.declared.diagnostic.Diagnostic.{Diagnostic}
use Rattle.timefd_lint.specs.declared.failure.Failure.{Failure}
use Rattle.timefd_lint.specs.declared.line.TextEnd.{TextEnd}
use Rattle.timefd_lint.specs.declared.line.TextEnd.TheVariants.{PassedOver, Accepted, Converted, Refused, NotText, Allowed, Failed, UnreadCall, UnreadValue, WrongComment}
use Rattle.timefd_lint.specs.declared.tally.LintTally.{LintTally}
use Rattle.timefd_lint_drawing.specs.declared.draw.Style.{Style}
use Rattle.timefd_lint_drawing.specs.declared.position.Origin.{Origin}
use Rattle.timefd_lint_drawing.specs.Drawing.{drawn_all}
use Rattle.timefd_lang_warnings.specs.declared.levels.Level.TheVariants.{Warned, Denied}
use Rattle.timefd_lang_warnings.specs.declared.levels.Levels.{Levels}
use Rattle.timefd_lang_warnings.specs.Levels.{count as warning_count}
use Rattle.timefd_lint_sources.specs.declared.reported.Reporting.{Reporting}
use Rattle.timefd_lint_sources.specs.declared.judgement.TextJudgement.{TextJudgement}
use Rattle.timefd_lint_sources.specs.declared.judgement.TextJudgement.TheVariants as judgements
use Rattle.timefd_lint_sources.specs.Judgements.{levels_of}
use Rattle.timefd_lint_sources.specs.Whole.{IsTreeWithWarnings, no_text_note}
use Rattle.timefd_lint_rewrite.specs.Lines.{AreLinesOf, IsNextLine, without_newline}
use Rattle.timefd_lint.specs.Failures.{IsUnreadNote, note_of}
use Rattle.timefd_lint.specs.Lines.{IsEndOf, IsJudged, IsLineEnd}
use Rattle.timefd_lint.specs.Marks.{IsNote, has_mark}

-- the drawings of a text's first fault and of the further ones, each at its position
abbrev pub faults_drawn : Style → Origin → Text → List Diagnostic → Text
faults_drawn style origin text [] = []
faults_drawn style origin text (g ∷ further) = drawn_all style origin text g further

-- A text is a whole, with its own first line and column.
abbrev pub IsAcceptedDrawn : Reporting → Origin → Text → Language → Option Levels → Text → Type 0
IsAcceptedDrawn reporting origin text language found message =
    IsTreeWithWarnings reporting origin text (record { start = 0; end = length text }) text 1 language (levels_of found)
    message

-- The message on what is wrong with a text.
abbrev pub IsDrawn : Reporting → Origin → Text → TextJudgement → Text → Type 0
IsDrawn reporting origin text (judgements.Accepted language found) message =
    IsAcceptedDrawn reporting origin text language found message
IsDrawn reporting origin text (judgements.Faulty faults) message =
    message ≡ faults_drawn reporting.style origin text faults.items
IsDrawn reporting origin text (judgements.Right traps) message =
    message ≡ flat_map (trap_drawn reporting.style origin text) traps.items
IsDrawn reporting origin text (judgements.Refused part) message =
    message ≡ refusal_drawn reporting.style origin text part.reason part.index

-- The message on a file that fails is the note on why.
abbrev pub IsFailureNote : Style → Bor Text → Text → Type 0
IsFailureNote style file message = (failure : Failure) × (message ≡ note_of style file failure)

-- The message on a text with this end.
abbrev pub IsMessageBy : LineLanguage → Reporting → Origin → Text → TextEnd → Text → Type 0
IsMessageBy language reporting origin text end message = (judgement : TextJudgement)
    × IsJudged language reporting text end judgement × IsDrawn reporting origin text judgement message

-- The message on a text. A text that is passed over has none.
abbrev pub IsMessageOn : LineLanguage → Reporting → Origin → Text → TextEnd → Text → Type 0
IsMessageOn language reporting origin text PassedOver message = message ≡ []
IsMessageOn language reporting origin text (Accepted found) message =
    IsMessageBy language reporting origin text (Accepted found) message
IsMessageOn language reporting origin text (Converted traps) message =
    IsMessageBy language reporting origin text (Converted traps) message
IsMessageOn language reporting origin text Refused message =
    IsMessageBy language reporting origin text Refused message
IsMessageOn language reporting origin text NotText message =
    message ≡ no_text_note reporting.style origin
IsMessageOn language reporting origin text (Allowed left) message = ⊥
IsMessageOn language reporting origin text Failed message =
    IsFailureNote reporting.style origin.file message
IsMessageOn language reporting origin text UnreadCall message = ⊥
IsMessageOn language reporting origin text UnreadValue message = ⊥
IsMessageOn language reporting origin text WrongComment message = ⊥

-- The message on a text is written after what was there before, and no other bytes are.
abbrev pub Says : LineLanguage → Reporting → Origin → Text → TextEnd → Option Text → Option Text → Type 0
Says language reporting origin text end before after = (message : Text)
    × IsMessageOn language reporting origin text end message × Appends before after message

-- The note on why a file can't be read is written, and no other bytes are.
abbrev pub SaysUnread : Style → Bor Text → Option Text → Option Text → Type 0
SaysUnread style file before after = (message : Text)
    × IsUnreadNote style file message × Appends before after message

-- The note on a byte-order mark, if there is one, comes before the message.
abbrev pub IsMessageOf : Bool → LineLanguage → Reporting → Origin → Text → TextEnd → Text → Type 0
IsMessageOf is_marked language reporting origin text end message =
    (note : Text) × (rest : Text) × (message ≡ note ++ rest)
    × IsNote is_marked reporting.style origin note
    × IsMessageOn language reporting origin text end rest

abbrev pub SaysOf : Bool → LineLanguage → Reporting → Origin → Text → TextEnd → Option Text → Option Text
    → Type 0
SaysOf is_marked language reporting origin text end before after = (message : Text)
    × IsMessageOf is_marked language reporting origin text end message × Appends before after message

-- a line of a file
abbrev pub position : Bor Text → ℕ → Origin
position name line = record { file = name; line = line }

-- a text with its newline, its position, whether a byte-order mark is noted before it, how its check ended,
-- and the message on it
pub record Reported : Type 0 where
  pub line : Text
  pub origin : Origin
  pub is_marked : Bool
  pub end : TextEnd
  pub message : Text

-- Whether a text is checked and not passed over, is refused or has a denied warning, isn't UTF-8, or is in a
-- file that can't be read.
abbrev pub is_description : TextEnd → Bool
is_description PassedOver = false
is_description (Accepted found) = true
is_description (Converted traps) = true
is_description Refused = true
is_description NotText = true
is_description (Allowed left) = true
is_description Failed = false
is_description UnreadCall = false
is_description UnreadValue = false
is_description WrongComment = false

-- whether one of the warnings is denied
abbrev pub is_denied : Levels → Bool
is_denied found = nat_lt 0 (warning_count Denied found)

abbrev pub is_refused : TextEnd → Bool
is_refused PassedOver = false
is_refused (Accepted found) = is_denied found
is_refused (Converted traps) = false
is_refused Refused = true
is_refused NotText = false
is_refused (Allowed left) = left.is_refused
is_refused Failed = false
is_refused UnreadCall = false
is_refused UnreadValue = false
is_refused WrongComment = false

abbrev pub is_not_text : TextEnd → Bool
is_not_text PassedOver = false
is_not_text (Accepted found) = false
is_not_text (Converted traps) = false
is_not_text Refused = false
is_not_text NotText = true
is_not_text (Allowed left) = false
is_not_text Failed = false
is_not_text UnreadCall = false
is_not_text UnreadValue = false
is_not_text WrongComment = false

abbrev pub is_failed : TextEnd → Bool
is_failed PassedOver = false
is_failed (Accepted found) = false
is_failed (Converted traps) = false
is_failed Refused = false
is_failed NotText = false
is_failed (Allowed left) = false
is_failed Failed = true
is_failed UnreadCall = false
is_failed UnreadValue = false
is_failed WrongComment = false

-- a name instead of a text, and no text is found for it
abbrev pub is_unread_call : TextEnd → Bool
is_unread_call PassedOver = false
is_unread_call (Accepted found) = false
is_unread_call (Converted traps) = false
is_unread_call Refused = false
is_unread_call NotText = false
is_unread_call (Allowed left) = false
is_unread_call Failed = false
is_unread_call UnreadCall = true
is_unread_call UnreadValue = false
is_unread_call WrongComment = false

-- a value of a key that isn't looked at
abbrev pub is_unread_value : TextEnd → Bool
is_unread_value PassedOver = false
is_unread_value (Accepted found) = false
is_unread_value (Converted traps) = false
is_unread_value Refused = false
is_unread_value NotText = false
is_unread_value (Allowed left) = false
is_unread_value Failed = false
is_unread_value UnreadCall = false
is_unread_value UnreadValue = true
is_unread_value WrongComment = false

-- a comment that names no language, or allows what is no code
abbrev pub is_wrong_comment : TextEnd → Bool
is_wrong_comment PassedOver = false
is_wrong_comment (Accepted found) = false
is_wrong_comment (Converted traps) = false
is_wrong_comment Refused = false
is_wrong_comment NotText = false
is_wrong_comment (Allowed left) = false
is_wrong_comment Failed = false
is_wrong_comment UnreadCall = false
is_wrong_comment UnreadValue = false
is_wrong_comment WrongComment = true

-- how many warnings are reported, without the denied ones
abbrev pub warnings_in : TextEnd → ℕ
warnings_in PassedOver = 0
warnings_in (Accepted found) = warning_count Warned found
warnings_in (Converted traps) = u64_saturate traps
warnings_in Refused = 0
warnings_in NotText = 0
warnings_in (Allowed left) = u64_saturate left.warnings
warnings_in Failed = 0
warnings_in UnreadCall = 0
warnings_in UnreadValue = 0
warnings_in WrongComment = 0

-- how many errors and warnings comments allow
abbrev pub allowed_in : TextEnd → ℕ
allowed_in PassedOver = 0
allowed_in (Accepted found) = 0
allowed_in (Converted traps) = 0
allowed_in Refused = 0
allowed_in NotText = 0
allowed_in (Allowed left) = u64_saturate left.allowed
allowed_in Failed = 0
allowed_in UnreadCall = 0
allowed_in UnreadValue = 0
allowed_in WrongComment = 0

-- the text in these bytes: all of a whole file, or what comes before a line's newline
abbrev pub text_in : Bool → Text → Text
text_in true bytes = bytes
text_in false bytes = without_newline bytes

-- How the check ends, for a whole file or for a line.
abbrev pub IsEndIn : Bool → LineLanguage → Option (Bor Text) → Reporting → Text → TextEnd → Type 0
IsEndIn true language comment reporting line end = IsEndOf language reporting line end
IsEndIn false language comment reporting line end = IsLineEnd language comment reporting (without_newline line) end

-- If an opened file can't be read further, the message says why.
abbrev pub IsUnreadIfFailed : Reporting → Reported → Type 0
IsUnreadIfFailed reporting t =
    IsTrue (is_failed t.end) → IsUnreadNote reporting.style t.origin.file t.message

-- A file that can't be read has no line.
pub record IsReportOn (is_whole : Bool) (language : LineLanguage) (comment : Option (Bor Text))
    (reporting : Reporting) (t : Reported) : Type 0 where
  pub end : IsFalse (is_failed t.end) → IsEndIn is_whole language comment reporting t.line t.end
  pub marked : IsTrue t.is_marked → IsTrue (has_mark t.line)
  pub message : IsMessageOf t.is_marked language reporting t.origin (text_in is_whole t.line) t.end
      t.message

abbrev pub one_if : Bool → ℕ
one_if true = 1
one_if false = 0

-- the amounts of all of them together
abbrev pub total : (Reported → ℕ) → List Reported → ℕ
total amount [] = 0
total amount (t ∷ reported) = amount t + total amount reported

-- how many pass the test
abbrev pub count : (Reported → Bool) → List Reported → ℕ
count test reported = total (λ t. one_if (test t)) reported

-- the tally of one text
abbrev pub tally_of_one : TextEnd → LintTally
tally_of_one end = record {
  descriptions = one_if (is_description end);
  refused = one_if (is_refused end);
  warnings = warnings_in end;
  unread_calls = one_if (is_unread_call end);
  unread_values = one_if (is_unread_value end);
  wrong_comments = one_if (is_wrong_comment end);
  allowed = allowed_in end;
  not_text = is_not_text end;
  failed = is_failed end;
  is_left = false;
}

-- the tally of all reports
abbrev pub tally_of : List Reported → LintTally
tally_of reported = record {
  descriptions = u64_saturate (count (λ t. is_description t.end) reported);
  refused = u64_saturate (count (λ t. is_refused t.end) reported);
  warnings = u64_saturate (total (λ t. warnings_in t.end) reported);
  unread_calls = u64_saturate (count (λ t. is_unread_call t.end) reported);
  unread_values = u64_saturate (count (λ t. is_unread_value t.end) reported);
  wrong_comments = u64_saturate (count (λ t. is_wrong_comment t.end) reported);
  allowed = u64_saturate (total (λ t. allowed_in t.end) reported);
  not_text = list_any (λ t. is_not_text t.end) reported;
  failed = list_any (λ t. is_failed t.end) reported;
  is_left = false;
}

-- the tally of these texts and those
abbrev pub both : LintTally → LintTally → LintTally
both a b =
    record {
      descriptions = u64_saturate (a.descriptions + b.descriptions);
      refused = u64_saturate (a.refused + b.refused);
      warnings = u64_saturate (a.warnings + b.warnings);
      unread_calls = u64_saturate (a.unread_calls + b.unread_calls);
      unread_values = u64_saturate (a.unread_values + b.unread_values);
      wrong_comments = u64_saturate (a.wrong_comments + b.wrong_comments);
      allowed = u64_saturate (a.allowed + b.allowed);
      not_text = a.not_text || b.not_text;
      failed = a.failed || b.failed;
      is_left = a.is_left || b.is_left;
    }

-- all messages, in order
abbrev pub messages : List Reported → Text
messages reported = flat_map (λ t. t.message) reported

-- the lines in the reports, none for a file that can't be read
abbrev pub lines_in : Reported → List Text
lines_in t = if is_failed t.end then [] else t.line ∷ []

abbrev pub lines_of : List Reported → List Text
lines_of reported = flat_map lines_in reported

-- A byte-order mark is noted only before the first text of a file, if it has one.
abbrev pub AreMarked : List Reported → Type 0
AreMarked [] = ⊤
AreMarked (t ∷ reported) =
    (t.is_marked ≡ has_mark t.line) × (list_any (λ u. u.is_marked) reported ≡ false)

-- It is in this line of this file.
abbrev pub IsPosition : Text → ℕ → Origin → Type 0
IsPosition file line origin = (origin.file.now ≡ file) × (origin.line ≡ line)

-- The texts of a file are in consecutive lines, from this one on.
abbrev pub ArePlaced : Text → ℕ → List Reported → Type 0
ArePlaced file line [] = ⊤
ArePlaced file line (t ∷ reported) = IsPosition file line t.origin × ArePlaced file (line + 1) reported

-- If the bytes of a reader are known, none of them is left.
abbrev pub IsReadUp : Option Text → Option Text → Type 0
IsReadUp bytes rest = IfSome bytes (λ _. IsAtEnd rest)

-- The result of a run: its tally counts all reports, and their messages are written in order, and nothing
-- else.
pub record IsRun (is_whole : Bool) (language : LineLanguage) (comment : Option (Bor Text))
    (reporting : Reporting) (before after : Option Text) (tally : LintTally) : Type 0 where
  pub reported : List Reported
  pub each : All (IsReportOn is_whole language comment reporting) reported
  pub found : tally ≡ tally_of reported
  pub written : Appends before after (messages reported)

-- There are as many lines as there are numbers for them in front of the last number.
abbrev pub AreCountedOut : List Reported → Type 0
AreCountedOut reported = 2 ^ 64 - 2 ≤ length (lines_of reported)

-- The result of a run over the lines of a reader, which are the lines of a file. It goes to the end unless the
-- reader has failed by then, or has more lines than are counted: no bytes in memory are so many.
pub record IsRunOver (language : LineLanguage) (comment : Option (Bor Text)) (reporting : Reporting)
    (file : Text) (bytes rest : Option Text) (has_failed : Bool) (before after : Option Text)
    (tally : LintTally) : Type 0 where
  pub run : IsRun false language comment reporting before after tally
  pub lines : AreLinesOf bytes (lines_of run.reported) tally.failed
  pub read : IsFalse tally.failed → IsReadUp bytes rest
  pub marks : AreMarked run.reported
  pub positions : ArePlaced file 1 run.reported
  pub reasons : All (IsUnreadIfFailed reporting) run.reported
  pub cause : IsTrue tally.failed → IsTrue has_failed ⊎ AreCountedOut run.reported

-- The result of a run over all bytes of a reader as one text. If the bytes are known, the report is about
-- that text, unless it can't be read since the reader has failed.
pub record IsRunOfAll (language : LineLanguage) (comment : Option (Bor Text)) (reporting : Reporting)
    (file : Text) (bytes rest : Option Text) (has_failed : Bool) (before after : Option Text)
    (tally : LintTally) : Type 0 where
  pub reported : Reported
  pub is_reported : IsReportOn true language comment reporting reported
  pub marked : reported.is_marked ≡ has_mark reported.line
  pub position : IsPosition file 1 reported.origin
  pub reason : IsUnreadIfFailed reporting reported
  pub whole : IsFalse (is_failed reported.end) → IfSome bytes (λ all. reported.line ≡ all)
  pub found : tally ≡ tally_of_one reported.end
  pub written : Appends before after reported.message
  pub read : IsFalse tally.failed → IsReadUp bytes rest
  pub cause : IsTrue tally.failed → IsTrue has_failed

-- The result of a run over all that a reader has: as one text, or line by line.
abbrev pub IsRunOn : Bool → LineLanguage → Option (Bor Text) → Reporting → Text → Option Text → Option Text
    → Bool → Option Text → Option Text → LintTally → Type 0
IsRunOn true language comment reporting file bytes rest has_failed before after tally =
    IsRunOfAll language comment reporting file bytes rest has_failed before after tally
IsRunOn false language comment reporting file bytes rest has_failed before after tally =
    IsRunOver language comment reporting file bytes rest has_failed before after tally

-- The result for the next line, the first or a later one, at its position. At the end of the bytes nothing is
-- written. If the line can't be read, the reader has failed, and the note says why.
abbrev pub IsNext : Bool → LineLanguage → Option (Bor Text) → Reporting → Origin → Option Text → Option Text
    → Bool → Option Text → Option Text → Option TextEnd → Type 0
IsNext is_first language comment reporting origin bytes rest has_failed before after None =
    IsAtEnd bytes × IsReadUp bytes rest × Keeps before after
IsNext is_first language comment reporting origin bytes rest has_failed before after (Some end) =
    (line : Text)
    × (IsFalse (is_failed end) → IsEndIn false language comment reporting line end
    × IsNextLine bytes line rest)
    × SaysOf (is_first && has_mark line) language reporting origin (text_in false line) end before after
    × (IsTrue (is_failed end) → IsTrue has_failed × SaysUnread reporting.style origin.file before after)
