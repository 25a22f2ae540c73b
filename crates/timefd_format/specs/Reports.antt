-- What people see of the messages of a run.
use Rattle.std.specs.Prelude.{Bool, true, false, Option, ◌++◌, chars, codes, IsFalse, IsTrue}
use Rattle.std.specs.Io.KnownBytes.{Appends}
use denote.Ref.{Bor}
use Rattle.timefd_lang_component.specs.Tree.{Text}
use Rattle.timefd_lint_diagnosis.specs.declared.diagnostic.Diagnostic.{Diagnostic}
use Rattle.timefd_lint_drawing.specs.declared.form.Format.TheVariants.{Human}
use Rattle.timefd_lint_drawing.specs.Drawing.{drawn}
use Rattle.timefd_lint_drawing.specs.People.{AllSeen, for_people}
use Rattle.timefd_format.specs.declared.report.MessageFate.{MessageFate}
use Rattle.timefd_format.specs.declared.report.MessageFate.TheVariants.{Seen, Failed}

-- The message is written as people see it, and all of that is seen: a terminal gets no character that it would
-- obey or hide, except for newlines and, in a message with colours, those. If it isn't seen, the stream has failed.
abbrev pub ReachesPeople : Bool → Text → Option Text → Option Text → Bool → MessageFate → Type 0
ReachesPeople colored message before after failed Seen =
    Appends before after (for_people colored message) × AllSeen colored (chars (for_people colored message))
ReachesPeople colored message before after failed Failed = IsTrue failed

-- A stream that had failed has still failed, and one that hasn't failed has got this text, and nothing else.
abbrev pub Gets : Text → Option Text → Option Text → Bool → Bool → Type 0
Gets text before after had_failed failed =
    (IsTrue had_failed → IsTrue failed) × (IsFalse failed → Appends before after text)

-- a sentence in a line of its own, after the name of the program
abbrev pub line_of : Text → Text
line_of sentence = codes "timefd_format: " ++ (sentence ++ codes "\n")

-- the drawing of a fault of a text that is called this
abbrev pub fault_text : Bool → Bor Text → Text → Diagnostic → Text
fault_text colored name text fault =
    drawn (record { format = Human; is_colored = colored }) (record { file = name; line = 1 }) text fault
