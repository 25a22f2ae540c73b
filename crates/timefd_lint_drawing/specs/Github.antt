-- Annotations, as GitHub reads them in the output of a workflow step.
use Rattle.std.specs.Prelude.{ℕ, Bool, ◌||◌, ◌==◌, [], ◌∷◌, ◌++◌, Option, None, Some, codes, flat_map, if◌then◌else◌}
use Rattle.std.specs.Str.{NonePass}
use Rattle.timefd_lang_component.specs.Tree.{Text}
use Rattle.timefd_lint_drawing.specs.declared.position.Position.{Position}
use Rattle.timefd_lint_drawing.specs.declared.severity.FindingSeverity.{FindingSeverity}
use Rattle.timefd_lint_drawing.specs.Findings.{Located, Said, described}
use Rattle.timefd_lint_drawing.specs.Json.{number_field}
use Rattle.timefd_lint_drawing.specs.Severities.{command}
use Rattle.timefd_lint_drawing.specs.Shown.{safe}

-- In a message a percent sign, a carriage return and a newline are escaped. All other bytes are as they are.
abbrev pub message_byte : ℕ → Text
message_byte byte =
    if byte == 37 then codes "%25"
    else if byte == 13 then codes "%0D"
    else if byte == 10 then codes "%0A"
    else byte ∷ []

abbrev pub escaped_message : Text → Text
escaped_message text = flat_map message_byte text

-- In a property a colon and a comma are escaped too.
abbrev pub property_byte : ℕ → Text
property_byte byte =
    if byte == 58 then codes "%3A"
    else if byte == 44 then codes "%2C"
    else message_byte byte

abbrev pub escaped_property : Text → Text
escaped_property text = flat_map property_byte text

abbrev pub property : Text → Text → Text
property front value = front ++ escaped_property value

-- The line and the column, and those of what follows the part if there is one.
abbrev pub line_fields : Position → Option Position → Text
line_fields start None = number_field (codes ",line=") start.line
line_fields start (Some end) = number_field (codes ",line=") start.line ++ number_field (codes ",endLine=") end.line

abbrev pub column_fields : Position → Option Position → Text
column_fields start None = number_field (codes ",col=") start.column
column_fields start (Some end) = number_field (codes ",col=") start.column ++ number_field (codes ",endColumn=") end.column

-- `::COMMAND file=FILE,line=LINE,endLine=LINE,col=COLUMN,endColumn=COLUMN,title=CODE::MESSAGE`
abbrev pub annotation : FindingSeverity → Text → Text → Position → Option Position → Text → Text
annotation severity code file start end message =
    [] ++ command severity ++ property (codes " file=") (safe file) ++ line_fields start end ++ column_fields start end
    ++ property (codes ",title=") code ++ codes "::" ++ escaped_message message ++ codes "\n"

-- a finding as an annotation, with the position of what follows the part
abbrev pub github : Located → Said → Text
github l s = annotation s.severity s.code l.file l.start l.end (described s)

-- The bytes that end a message, and those that end a property.
abbrev pub ends_message : ℕ → Bool
ends_message byte = (byte == 13) || (byte == 10)

abbrev pub ends_property : ℕ → Bool
ends_property byte = (byte == 58) || (byte == 44) || ends_message byte

-- An escaped message ends at its last byte, and so does an escaped property.
abbrev pub AnnotationStaysWhole : Type 0
AnnotationStaysWhole =
    (text : Text) → NonePass ends_message (escaped_message text)
    × NonePass ends_property (escaped_property text)
