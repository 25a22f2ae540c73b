-- The answer to C about a text that a moment is written by.
use Rattle.std.specs.Prelude.{ℕ, ◌≡◌, ◌≢◌, ◌≤◌, ◌<◌, ◌++◌, ◌⊎◌, IsSome, IsUtf8, List, Option, Some, None, Result, Ok, Err, length, drop}
use Rattle.timefd_c.specs.declared.answer.TheConstants.{ACCEPTED, REFUSED, NOT_UTF8, NO_MEMORY, UNKNOWN_KIND}
use Rattle.timefd_c.specs.declared.format_answer.FormatAnswer.{FormatAnswer}
use Rattle.timefd_c.specs.declared.format_answer.TheConstants.{UNSHOWN, OUT_OF_RANGE}
use Rattle.timefd_c.specs.declared.moment.MomentFields.{MomentFields}
use Rattle.timefd_c.specs.Answers.{DescribesWithin, HasFaultWithin}
use Rattle.timefd_c.specs.Moments.{IsMoment, range_fault}
use Rattle.timefd_c_nodes.specs.Encoding.{component_node}
use Rattle.timefd_lang_component.specs.Tree.{Text, Tree, trees}
use Rattle.timefd_parse.specs.Faults.{Fault}
use Rattle.timefd_date_format.specs.declared.field.Lack.{Lack}
use Rattle.timefd_date_format.specs.declared.field.Lack.TheVariants as lacks
use Rattle.timefd_date_format.specs.declared.field.Unshown.{Unshown}
use Rattle.timefd_date_format.specs.Written.{written_all}
use Rattle.timefd_date_moment.specs.declared.component_range.ComponentRange.{ComponentRange}
use Rattle.timefd_date_moment.specs.declared.component_range.ComponentRange.TheVariants as ranges
use Rattle.timefd_date_moment.specs.declared.moment.Moment.{Moment}
use Rattle.timefd_language.specs.declared.description_version.Language.{Language}

-- the number of the reason why a component shows nothing
abbrev pub lack_number : Lack → ℕ
lack_number lacks.NoDate = 1
lack_number lacks.NoTime = 2
lack_number lacks.NoOffset = 3
lack_number lacks.YearTooLong = 4
lack_number lacks.InstantOutOfRange = 5

-- the number of what is out of its range
abbrev pub range_number : ComponentRange → ℕ
range_number ranges.Year = 1
range_number ranges.Month = 2
range_number ranges.Day = 3
range_number ranges.Hour = 4
range_number ranges.Minute = 5
range_number ranges.Second = 6
range_number ranges.Nanosecond = 7
range_number ranges.Offset = 8
range_number ranges.Instant = 9

-- the answer with this status and value, if nothing was written
abbrev pub silent : ℕ → ℕ → FormatAnswer
silent status value =
    record { status = status; reason = 0; component = 0; value = value; written = 0 }

abbrev pub unshown_answer : Unshown → FormatAnswer
unshown_answer u = record {
  status = UNSHOWN;
  reason = lack_number u.lack;
  component = (component_node u.component 0).component;
  value = 0;
  written = 0;
}

abbrev pub range_answer : ComponentRange → FormatAnswer
range_answer e = record (silent OUT_OF_RANGE 0) { reason = range_number e }

abbrev pub text_answer : Text → ℕ → FormatAnswer
text_answer text written = record (silent ACCEPTED (length text)) { written = written }

-- The buffer begins with the text if all of it fits, and is otherwise unchanged.
pub record IsReported (text before after : Text) (answer : FormatAnswer) : Type 0 where
  pub reported : answer ≡ text_answer text answer.written
  pub whole : length text ≤ length before
      → (after ≡ text ++ drop (length text) before) × (answer.written ≡ length text)
  pub too_short : length before < length text → (after ≡ before) × (answer.written ≡ 0)

-- The answer has the text or the reason why there is none, or says that memory ran out.
abbrev pub Shows : Result Text Unshown → Text → Text → FormatAnswer → Type 0
Shows (Ok text) before after answer = IsReported text before after answer ⊎ (answer ≡ silent NO_MEMORY 0)
Shows (Err u) before after answer = (answer ≡ unshown_answer u) ⊎ (answer ≡ silent NO_MEMORY 0)

-- The answer says what the bytes, as a text of the language with at most `limit` nested descriptions around one
-- another, write of the moment, or why they write nothing. The buffer held `before` and holds `after`.
pub record FormatsBy (language : Option Language) (limit : ℕ) (bytes : Text) (m : Moment)
    (before after : Text) (answer : FormatAnswer) : Type 0 where
  pub unknown_kind : language ≡ None → answer ≡ silent UNKNOWN_KIND 0
  pub not_utf8 : IsSome language → ¬ (IsUtf8 bytes) → answer ≡ silent NOT_UTF8 0
  pub faulty : (f : Fault) → HasFaultWithin language limit bytes f → answer ≡ silent REFUSED f.index
  pub spelled : (list : List Tree) → DescribesWithin language limit bytes list
      → Shows (written_all m (trees list)) before after answer
  pub kept : answer.status ≢ ACCEPTED → after ≡ before

-- The answer says what the text writes of the moment with these numbers. If one of them is out of its
-- range, the answer says so, whatever the text is.
pub record Formats (language : Option Language) (limit : ℕ) (bytes : Text) (fields : MomentFields)
    (before after : Text) (answer : FormatAnswer) : Type 0 where
  pub out_of_range : (e : ComponentRange) → range_fault fields ≡ Some e
      → (answer ≡ range_answer e) × (after ≡ before)
  pub formats : range_fault fields ≡ None
      → (m : Moment) × IsMoment fields m × FormatsBy language limit bytes m before after answer
