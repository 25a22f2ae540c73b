-- The objects for findings are JSON.
use Rattle.std.proofs.Common.{◌≡◌, ℕ, ◌≤◌, Bool, true, false, List, [], ◌∷◌, ◌++◌, Option, Some, None, codes, refl, ◌∙◌, IsUtf8, arith}
use Rattle.json.specs.Token.{end_object, boolean}
use Rattle.json.specs.Lex.{Lexeme, token, punctuate, fresh}
use Rattle.json.specs.Strict.{HasUniqueKeys}
use Rattle.json.specs.Tree.{json_tokens, depth}
use Rattle.timefd_parse.specs.Tree.{Text}
use Rattle.timefd_lint_diagnosis.specs.declared.diagnostic.Span.{Span}
use Rattle.timefd_lint_drawing.specs.Json as drawing
use Rattle.timefd_web.specs.JsonLaws.Objects.{ObjectsAreJson, IsNumber64, IsRange64, IsWord, object_value}
use Rattle.timefd_web.proofs.JsonLawLemmas.Distinct.{unique_keys}
use Rattle.timefd_web.proofs.JsonLawLemmas.Fields.{text_lexed, number_lexed, strings, numbers, then}
use Rattle.timefd_web.proofs.JsonLawLemmas.Fronts as front
use Rattle.timefd_web.proofs.JsonLawLemmas.Fronts.{first_key, next_key}
use Rattle.timefd_web.proofs.JsonLawLemmas.Means.{means_of, tokens_of}
use Rattle.timefd_web.proofs.JsonLawLemmas.Pieces.{Lexes, Opens, no_piece}

abbrev further_lexemes : Bool → List Lexeme
further_lexemes true = next_key (codes "further") ++ token (boolean true) ∷ []
further_lexemes false = []

further_lexed : (further : Bool) → Lexes (drawing.further_field further) (further_lexemes further)
further_lexed true = front.further_piece
further_lexed false = no_piece

abbrev lexemes_if_any : Text → Option Text → List Lexeme
lexemes_if_any key None = []
lexemes_if_any key (Some text) = next_key key ++ strings text

lexed_if_any : (front key : Text) (o : Option Text) → Opens front (next_key key) → IsWord o
    → Lexes (drawing.field_if_any front o) (lexemes_if_any key o)
lexed_if_any front key None opens is = no_piece
lexed_if_any front key (Some text) opens is = text_lexed _ text _ opens is

abbrev end_lexemes : Option Span → List Lexeme
end_lexemes None = []
end_lexemes (Some span) = next_key (codes "end") ++ numbers span.end

end_lexed : (bytes : Option Span) → IsRange64 bytes → Lexes (drawing.end_field bytes) (end_lexemes bytes)
end_lexed None is = no_piece
end_lexed (Some span) is = number_lexed _ span.end _ front.end_front is.1

abbrev start_lexemes : Option Span → List Lexeme
start_lexemes None = []
start_lexemes (Some span) = next_key (codes "start") ++ numbers span.start

start_lexed : (bytes : Option Span) → IsRange64 bytes → Lexes (drawing.start_field bytes) (start_lexemes bytes)
start_lexed None is = no_piece
start_lexed (Some span) is = number_lexed _ span.start _ front.start_front is.0

abbrev object_lexemes : Option Span → Bool → Text → Text → ℕ → ℕ → Text → Option Text → Option Text → Text → List Lexeme
object_lexemes bytes further code file line column message help replacement severity =
    [] ++ (first_key (codes "code") ++ strings code) ++ (next_key (codes "column") ++ numbers column)
    ++ end_lexemes bytes ++ (next_key (codes "file") ++ strings file) ++ further_lexemes further
    ++ lexemes_if_any (codes "help") help ++ (next_key (codes "line") ++ numbers line)
    ++ (next_key (codes "message") ++ strings message) ++ lexemes_if_any (codes "replacement") replacement
    ++ (next_key (codes "severity") ++ strings severity) ++ start_lexemes bytes ++ token end_object ∷ []

object_tokens : (bytes : Option Span) (further : Bool) (code file : Text) (line column : ℕ) (message : Text)
    (help replacement : Option Text) (severity : Text)
    → punctuate fresh (object_lexemes bytes further code file line column message help replacement severity ++ [])
    ≡ json_tokens (object_value bytes further code file line column message help replacement severity)
unfolding punctuate
object_tokens None true code file line column message None None severity = refl
object_tokens None true code file line column message None (Some word) severity = refl
object_tokens None true code file line column message (Some text) None severity = refl
object_tokens None true code file line column message (Some text) (Some word) severity = refl
object_tokens None false code file line column message None None severity = refl
object_tokens None false code file line column message None (Some word) severity = refl
object_tokens None false code file line column message (Some text) None severity = refl
object_tokens None false code file line column message (Some text) (Some word) severity = refl
object_tokens (Some span) true code file line column message None None severity = refl
object_tokens (Some span) true code file line column message None (Some word) severity = refl
object_tokens (Some span) true code file line column message (Some text) None severity = refl
object_tokens (Some span) true code file line column message (Some text) (Some word) severity = refl
object_tokens (Some span) false code file line column message None None severity = refl
object_tokens (Some span) false code file line column message None (Some word) severity = refl
object_tokens (Some span) false code file line column message (Some text) None severity = refl
object_tokens (Some span) false code file line column message (Some text) (Some word) severity = refl

object_distinct : (bytes : Option Span) (further : Bool) (code file : Text) (line column : ℕ) (message : Text)
    (help replacement : Option Text) (severity : Text)
    → HasUniqueKeys (object_value bytes further code file line column message help replacement severity)
object_distinct None true code file line column message None None severity =
    unique_keys (object_value None true code file line column message None None severity) refl
object_distinct None true code file line column message None (Some word) severity =
    unique_keys (object_value None true code file line column message None (Some word) severity) refl
object_distinct None true code file line column message (Some text) None severity =
    unique_keys (object_value None true code file line column message (Some text) None severity) refl
object_distinct None true code file line column message (Some text) (Some word) severity =
    unique_keys (object_value None true code file line column message (Some text) (Some word) severity) refl
object_distinct None false code file line column message None None severity =
    unique_keys (object_value None false code file line column message None None severity) refl
object_distinct None false code file line column message None (Some word) severity =
    unique_keys (object_value None false code file line column message None (Some word) severity) refl
object_distinct None false code file line column message (Some text) None severity =
    unique_keys (object_value None false code file line column message (Some text) None severity) refl
object_distinct None false code file line column message (Some text) (Some word) severity =
    unique_keys (object_value None false code file line column message (Some text) (Some word) severity) refl
object_distinct (Some span) true code file line column message None None severity =
    unique_keys (object_value (Some span) true code file line column message None None severity) refl
object_distinct (Some span) true code file line column message None (Some word) severity =
    unique_keys (object_value (Some span) true code file line column message None (Some word) severity) refl
object_distinct (Some span) true code file line column message (Some text) None severity =
    unique_keys (object_value (Some span) true code file line column message (Some text) None severity) refl
object_distinct (Some span) true code file line column message (Some text) (Some word) severity =
    unique_keys (object_value (Some span) true code file line column message (Some text) (Some word) severity) refl
object_distinct (Some span) false code file line column message None None severity =
    unique_keys (object_value (Some span) false code file line column message None None severity) refl
object_distinct (Some span) false code file line column message None (Some word) severity =
    unique_keys (object_value (Some span) false code file line column message None (Some word) severity) refl
object_distinct (Some span) false code file line column message (Some text) None severity =
    unique_keys (object_value (Some span) false code file line column message (Some text) None severity) refl
object_distinct (Some span) false code file line column message (Some text) (Some word) severity =
    unique_keys (object_value (Some span) false code file line column message (Some text) (Some word) severity) refl

object_shallow : (bytes : Option Span) (further : Bool) (code file : Text) (line column : ℕ) (message : Text)
    (help replacement : Option Text) (severity : Text)
    → depth (object_value bytes further code file line column message help replacement severity) ≤ 128
object_shallow None true code file line column message None None severity = omega arith
object_shallow None true code file line column message None (Some word) severity = omega arith
object_shallow None true code file line column message (Some text) None severity = omega arith
object_shallow None true code file line column message (Some text) (Some word) severity = omega arith
object_shallow None false code file line column message None None severity = omega arith
object_shallow None false code file line column message None (Some word) severity = omega arith
object_shallow None false code file line column message (Some text) None severity = omega arith
object_shallow None false code file line column message (Some text) (Some word) severity = omega arith
object_shallow (Some span) true code file line column message None None severity = omega arith
object_shallow (Some span) true code file line column message None (Some word) severity = omega arith
object_shallow (Some span) true code file line column message (Some text) None severity = omega arith
object_shallow (Some span) true code file line column message (Some text) (Some word) severity = omega arith
object_shallow (Some span) false code file line column message None None severity = omega arith
object_shallow (Some span) false code file line column message None (Some word) severity = omega arith
object_shallow (Some span) false code file line column message (Some text) None severity = omega arith
object_shallow (Some span) false code file line column message (Some text) (Some word) severity = omega arith

object_lexed : (bytes : Option Span) (further : Bool) (code file : Text) (line column : ℕ) (message : Text)
    (help replacement : Option Text) (severity : Text)
    → IsRange64 bytes → IsUtf8 code → IsUtf8 file → IsNumber64 line → IsNumber64 column → IsUtf8 message → IsWord help
    → IsWord replacement → IsUtf8 severity
    → Lexes (drawing.object bytes further code file line column message help replacement severity)
    (object_lexemes bytes further code file line column message help replacement severity)
object_lexed bytes further code file line column message help replacement severity b c f l k m h r s =
    then (then (then (then (then (then (then (then (then (then (then (then
    no_piece (text_lexed _ code _ front.code_front c))
    (number_lexed _ column _ front.column_front k))
    (end_lexed bytes b))
    (text_lexed _ file _ front.file_front f))
    (further_lexed further))
    (lexed_if_any _ _ help front.help_front h))
    (number_lexed _ line _ front.line_front l))
    (text_lexed _ message _ front.message_front m))
    (lexed_if_any _ _ replacement front.replacement_front r))
    (text_lexed _ severity _ front.severity_front s))
    (start_lexed bytes b))
    front.closing

pub objects_are_json : ObjectsAreJson
objects_are_json bytes further code file line column message help replacement severity b c f l k m h r s =
    let lexed = object_lexed bytes further code file line column message help replacement severity b c f l k m h r s in
    record {
      utf8 = lexed.utf8;
      means = means_of _ _ (tokens_of _ _ lexed ∙ object_tokens bytes further code file line column message help replacement severity)
          (object_shallow bytes further code file line column message help replacement severity);
      distinct = object_distinct bytes further code file line column message help replacement severity;
    }
