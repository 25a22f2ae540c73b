-- The values of the objects for findings.
use Rattle.std.specs.Prelude.{ℕ, ◌<◌, ◌^◌, Bool, true, false, Option, None, Some, codes, decimal, IsUtf8, ⊤}
use Rattle.json.specs.Json.{Json, string, number, boolean, object, Members, no_members, member}
use Rattle.timefd_parse.specs.Tree.{Text}
use Rattle.timefd_lint_diagnosis.specs.declared.diagnostic.Span.{Span}
use Rattle.timefd_lint_drawing.specs.Json as drawing
use Rattle.timefd_web.specs.JsonLaws.Meaning.{IsJson}

abbrev pub text_member : Text → Text → Members → Members
text_member key text others = member key (string text) others

abbrev pub number_member : Text → ℕ → Members → Members
number_member key n others = member key (number (decimal n)) others

-- The member that only a further fault has.
abbrev pub further_member : Bool → Members → Members
further_member true others = member (codes "further") (boolean true) others
further_member false others = others

-- A member that is left out if there is no text.
abbrev pub member_if_any : Text → Option Text → Members → Members
member_if_any key None others = others
member_if_any key (Some text) others = text_member key text others

-- The members that only a finding in a part of a text has.
abbrev pub end_member : Option Span → Members → Members
end_member None others = others
end_member (Some span) others = number_member (codes "end") span.end others

abbrev pub start_member : Option Span → Members
start_member None = no_members
start_member (Some span) = number_member (codes "start") span.start no_members

abbrev pub object_value : Option Span → Bool → Text → Text → ℕ → ℕ → Text → Option Text → Option Text → Text → Json
object_value bytes further code file line column message help replacement severity =
    object (text_member (codes "code") code (number_member (codes "column") column
    (end_member bytes (text_member (codes "file") file
    (further_member further
    (member_if_any (codes "help") help (number_member (codes "line") line
    (text_member (codes "message") message (member_if_any (codes "replacement") replacement
    (text_member (codes "severity") severity (start_member bytes)))))))))))

-- What a `u64` holds.
abbrev pub IsNumber64 : ℕ → Type 0
IsNumber64 n = n < 2 ^ 64

abbrev pub IsWord : Option Text → Type 0
IsWord None = ⊤
IsWord (Some word) = IsUtf8 word

abbrev pub IsRange64 : Option Span → Type 0
IsRange64 None = ⊤
IsRange64 (Some span) = IsNumber64 span.start × IsNumber64 span.end

-- An object is JSON, and has exactly these keys and values.
abbrev pub ObjectsAreJson : Type 0
ObjectsAreJson =
    (bytes : Option Span) (further : Bool) (code file : Text) (line column : ℕ) (message : Text)
    (help replacement : Option Text) (severity : Text)
    → IsRange64 bytes → IsUtf8 code → IsUtf8 file → IsNumber64 line → IsNumber64 column → IsUtf8 message → IsWord help
    → IsWord replacement → IsUtf8 severity
    → IsJson (drawing.object bytes further code file line column message help replacement severity)
    (object_value bytes further code file line column message help replacement severity)
