-- The report on a text that is read by a description.
use Rattle.std.specs.Prelude.{◌≡◌, ◌++◌, List, [], codes, Result, Ok, Err}
use Rattle.timefd_parse.specs.Tree.{Text, Tree}
use Rattle.timefd_lint_drawing.specs.Json.{text_field, number_field}
use Rattle.timefd_parse.specs.Faults.{Fault}
use Rattle.timefd_date_format.specs.Sentences.{name}
use Rattle.timefd_parse.specs.Grammar.{nesting_limit}
use Rattle.timefd_date_moment.specs.Display.{moment_text}
use Rattle.timefd_date_moment.specs.declared.moment.Moment.{Moment}
use Rattle.timefd_parse.specs.LanguageType.{Language}
use Rattle.timefd_parse.specs.Language.{SpellsIn, FaultIn}
use Rattle.timefd_date_moment.specs.declared.fields.fault.ReadError.{ReadError}
use Rattle.timefd_date_moment.specs.declared.fields.fault.UnreadReason.{UnreadReason}
use Rattle.timefd_date_moment.specs.declared.fields.fault.UnreadReason.TheVariants as for
use Rattle.timefd_date_moment.specs.Reading.Sentences.{sentence}
use Rattle.timefd_date_moment.specs.declared.reading.error.ValueError.{ValueError}
use Rattle.timefd_description.specs.ReadAnswers.{IsReadAs, IsRefusedFor, fields_in}
use Rattle.timefd_description.specs.Sentences.{reason_sentence}
use Rattle.timefd_description.specs.declared.read_error.ReadTextError.{ReadTextError}
use Rattle.timefd_description.specs.declared.read_error.ReadTextError.TheVariants as fails

-- why a part of the text doesn't match
abbrev pub sentence_here : UnreadReason → Text
sentence_here reason = reason_sentence reason ++ codes " here"

-- the component that doesn't match, or nothing
abbrev pub component_in : UnreadReason → Text
component_in (for.Unread c) = name c
component_in (for.Contradiction c) = name c
component_in for.Literal = []
component_in for.Trailing = []

-- The objects: a moment, in the forms of ISO 8601; the part that doesn't match, with the byte index where
-- it begins; why what was read is not a moment; and that there is no description.

abbrev pub moment_object : Moment → Text
moment_object m =
    [] ++ text_field (codes "{\"read\":true,\"moment\":") (moment_text m) ++ codes "}"

abbrev pub unread_object : ReadError → Text
unread_object u =
    [] ++ text_field (codes "{\"read\":false,\"message\":") (sentence_here u.reason)
    ++ text_field (codes ",\"component\":") (component_in u.reason)
    ++ number_field (codes ",\"start\":") u.index ++ codes "}"

abbrev pub value_object : ValueError → Text
value_object v =
    [] ++ text_field (codes "{\"read\":false,\"message\":") (sentence v) ++ codes "}"

abbrev pub no_description : Text
no_description = [] ++ codes "{\"read\":false}"

-- The object reports the result. No object reports that memory ran out.
abbrev pub Shows : Result Moment ReadTextError → Text → Type 0
Shows (Ok m) object = object ≡ moment_object m
Shows (Err (fails.Unread u)) object = object ≡ unread_object u
Shows (Err (fails.Value v)) object = object ≡ value_object v
Shows (Err (fails.Fault f)) object = object ≡ no_description
Shows (Err (fails.Memory e)) object = ⊥

-- By a description of these items the text is read, and the object reports what was read, or why nothing
-- was.
abbrev pub IsReading : List Tree → Text → Text → Type 0
IsReading list text object =
    (answer : Result Moment ReadTextError) × IsReadAs (fields_in list text) answer
    × Shows answer object

-- The object says that there is no description, because of this fault.
abbrev pub IsNoReading : Fault → Text → Type 0
IsNoReading f object =
    (answer : Result Moment ReadTextError) × IsRefusedFor f answer × Shows answer object

-- What the object says of the text by a description.
pub record Reads (language : Language) (description text object : Text) : Type 0 where
  pub spelled : (list : List Tree) → SpellsIn language nesting_limit description list
      → IsReading list text object
  pub refused : (f : Fault) → FaultIn language nesting_limit description f
      → IsNoReading f object
