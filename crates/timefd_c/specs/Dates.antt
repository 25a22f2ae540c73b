-- The answer to C about a text that is read as a date.
use Rattle.std.specs.Prelude.{ℕ, ◌≡◌, IsSome, IsUtf8, List, Option, None, Result, Ok, Err}
use Rattle.timefd_c.specs.declared.answer.TheConstants.{ACCEPTED, REFUSED, NOT_UTF8, NO_MEMORY, UNKNOWN_KIND}
use Rattle.timefd_c.specs.declared.date_answer.DateAnswer.{DateAnswer}
use Rattle.timefd_c.specs.declared.date_answer.TheConstants.{UNREAD, CONTRADICTION, MISSING, DATE_NOT_UTF8}
use Rattle.timefd_c.specs.Answers.{DescribesWithin, HasFaultWithin}
use Rattle.timefd_c.specs.Moments.{AreNumbers, IsMoment, range_fault, unknown}
use Rattle.timefd_c_nodes.specs.Encoding.{component_node}
use Rattle.timefd_lang_component.specs.Tree.{Text, Tree}
use Rattle.timefd_parse.specs.Faults.{Fault}
use Rattle.timefd_date_moment.specs.declared.moment.Moment.{Moment}
use Rattle.timefd_language.specs.declared.description_version.Language.{Language}
use Rattle.timefd_date_moment.specs.declared.fields.fault.ReadError.{ReadError}
use Rattle.timefd_date_moment.specs.declared.fields.fault.UnreadReason.{UnreadReason}
use Rattle.timefd_date_moment.specs.declared.fields.fault.UnreadReason.TheVariants as for
use Rattle.timefd_date_moment.specs.declared.reading.error.ValueError.{ValueError}
use Rattle.timefd_date_moment.specs.declared.reading.error.ValueError.TheVariants as error
use Rattle.timefd_date_moment.specs.declared.reading.part.DatePart.{DatePart}
use Rattle.timefd_date_moment.specs.declared.reading.part.TimePart.{TimePart}
use Rattle.timefd_date_moment.specs.declared.reading.part.OffsetPart.{OffsetPart}
use Rattle.timefd_date_moment.specs.declared.reading.part.InstantPart.{InstantPart}
use Rattle.timefd_date_moment.specs.declared.reading.part.Part.{Part}
use Rattle.timefd_date_moment.specs.declared.reading.part.Part.TheVariants as part
use Rattle.timefd_description.specs.ReadAnswers.{IsReadAs, fields_in}
use Rattle.timefd_description.specs.declared.read_error.ReadTextError.{ReadTextError}
use Rattle.timefd_description.specs.declared.read_error.ReadTextError.TheVariants as fails

-- the number of the reason why a part doesn't match
abbrev pub reason_number : UnreadReason → ℕ
reason_number (for.Unread c) = 1
reason_number (for.Contradiction c) = 2
reason_number for.Literal = 3
reason_number for.Trailing = 4

-- the number of the component that doesn't match, or 0 if it is no component
abbrev pub component_in : UnreadReason → ℕ
component_in (for.Unread c) = (component_node c 0).component
component_in (for.Contradiction c) = (component_node c 0).component
component_in for.Literal = 0
component_in for.Trailing = 0

-- the numbers of the parts of a date, a time of day, an offset and an instant that can be read

abbrev pub date_part_number : DatePart → ℕ
date_part_number DatePart.Day = 1
date_part_number DatePart.Month = 2
date_part_number DatePart.Ordinal = 3
date_part_number DatePart.Weekday = 4
date_part_number DatePart.IsoWeek = 5
date_part_number DatePart.SundayWeek = 6
date_part_number DatePart.MondayWeek = 7
date_part_number DatePart.YearLastTwo = 8
date_part_number DatePart.Century = 9
date_part_number DatePart.Year = 10
date_part_number DatePart.IsoYearLastTwo = 11
date_part_number DatePart.IsoCentury = 12
date_part_number DatePart.IsoYear = 13

abbrev pub time_part_number : TimePart → ℕ
time_part_number TimePart.Hour = 14
time_part_number TimePart.Hour12 = 15
time_part_number TimePart.Period = 16
time_part_number TimePart.Minute = 17
time_part_number TimePart.Second = 18
time_part_number TimePart.Subsecond = 19

abbrev pub offset_part_number : OffsetPart → ℕ
offset_part_number OffsetPart.Hour = 20
offset_part_number OffsetPart.Minute = 21
offset_part_number OffsetPart.Second = 22

abbrev pub instant_part_number : InstantPart → ℕ
instant_part_number InstantPart.Second = 23
instant_part_number InstantPart.Millisecond = 24
instant_part_number InstantPart.Microsecond = 25
instant_part_number InstantPart.Nanosecond = 26

abbrev pub part_number : Part → ℕ
part_number (part.Date p) = date_part_number p
part_number (part.Time p) = time_part_number p
part_number (part.Offset p) = offset_part_number p
part_number (part.Instant p) = instant_part_number p

-- the answer with this status and value, if nothing was read
abbrev pub silent : ℕ → ℕ → DateAnswer
silent status value = record {
  status = status;
  reason = 0;
  component = 0;
  part = 0;
  value = value;
  moment = unknown;
}

-- The answer has the numbers of the moment, and timefd_format takes these for the same moment.
pub record IsRead (m : Moment) (answer : DateAnswer) : Type 0 where
  pub reported : answer ≡ record (silent ACCEPTED 0) { moment = answer.moment }
  pub numbers : AreNumbers m answer.moment
  pub same : IsMoment answer.moment m
  pub in_range : range_fault answer.moment ≡ None

abbrev pub unread_answer : ReadError → DateAnswer
unread_answer u = record (silent UNREAD u.index) {
  reason = reason_number u.reason;
  component = component_in u.reason;
}

abbrev pub value_answer : ValueError → DateAnswer
value_answer (error.Missing p) = record (silent MISSING 0) { part = part_number p }
value_answer (error.Contradiction p) = record (silent CONTRADICTION 0) { part = part_number p }

-- The answer has the moment that was read, or the reason why none was.
abbrev pub Answers : Result Moment ReadTextError → DateAnswer → Type 0
Answers (Ok m) answer = IsRead m answer
Answers (Err (fails.Fault f)) answer = answer ≡ silent REFUSED f.start
Answers (Err (fails.Unread u)) answer = answer ≡ unread_answer u
Answers (Err (fails.Value v)) answer = answer ≡ value_answer v
Answers (Err (fails.Memory e)) answer = answer ≡ silent NO_MEMORY 0

-- By a description of these items the date is read as `IsReadAs` says, and the answer says so.
abbrev pub ReadsBy : List Tree → Text → DateAnswer → Type 0
ReadsBy list date answer =
    (read : Result Moment ReadTextError) × IsReadAs (fields_in list date) read
    × Answers read answer

-- The answer says what the date shows by a description in the language, with at most `limit` nested descriptions
-- around one another, or why it shows nothing.
pub record ReadsDate (language : Option Language) (limit : ℕ) (bytes date : Text) (answer : DateAnswer)
    : Type 0 where
  pub unknown_kind : language ≡ None → answer ≡ silent UNKNOWN_KIND 0
  pub not_utf8 : IsSome language → ¬ (IsUtf8 bytes) → answer ≡ silent NOT_UTF8 0
  pub date_not_utf8 : IsSome language → IsUtf8 bytes → ¬ (IsUtf8 date)
      → answer ≡ silent DATE_NOT_UTF8 0
  pub faulty : IsUtf8 date → (f : Fault) → HasFaultWithin language limit bytes f
      → answer ≡ silent REFUSED f.index
  pub spelled : IsUtf8 date → (list : List Tree) → DescribesWithin language limit bytes list
      → ReadsBy list date answer
