-- What comes before each value of a result, and the lexemes that it is.
use Rattle.std.proofs.Common.{true, List, [], ◌∷◌, codes, refl}
use Rattle.json.specs.Text.{content}
use Rattle.json.specs.Token.{begin_object, end_object, begin_array, end_array, string, boolean}
use Rattle.json.specs.Word.{word}
use Rattle.json.specs.Lex.{Lexeme, token, comma, colon, lex}
use Rattle.json.proofs.Printed.Utf8.{IsUtf8-are_ascii}
use Rattle.timefd_web.proofs.JsonLawLemmas.Pieces.{Lexes, Opens}

abbrev pub rule_id_lexemes : List Lexeme
rule_id_lexemes = comma ∷ token begin_object ∷ token (string (codes "ruleId")) ∷ colon ∷ []

pub rule_id_front : Opens (codes ",{\"ruleId\":") rule_id_lexemes
unfolding lex content
rule_id_front = record { utf8 = IsUtf8-are_ascii _ refl; ends = λ rest. refl; read = λ rest. refl }

abbrev pub level_lexemes : List Lexeme
level_lexemes = comma ∷ token (string (codes "level")) ∷ colon ∷ []

pub level_front : Opens (codes ",\"level\":") level_lexemes
unfolding lex content
level_front = record { utf8 = IsUtf8-are_ascii _ refl; ends = λ rest. refl; read = λ rest. refl }

abbrev pub message_lexemes : List Lexeme
message_lexemes = comma ∷ token (string (codes "message")) ∷ colon ∷ token begin_object ∷ token (string (codes "text")) ∷ colon ∷ []

pub message_front : Opens (codes ",\"message\":{\"text\":") message_lexemes
unfolding lex content
message_front = record { utf8 = IsUtf8-are_ascii _ refl; ends = λ rest. refl; read = λ rest. refl }

abbrev pub uri_lexemes : List Lexeme
uri_lexemes = token begin_object ∷ token (string (codes "artifactLocation")) ∷ colon ∷ token begin_object ∷ token (string (codes "uri")) ∷ colon ∷ []

pub uri_front : Opens (codes "{\"artifactLocation\":{\"uri\":") uri_lexemes
unfolding lex content
uri_front = record { utf8 = IsUtf8-are_ascii _ refl; ends = λ rest. refl; read = λ rest. refl }

abbrev pub region_lexemes : List Lexeme
region_lexemes = token end_object ∷ comma ∷ token (string (codes "region")) ∷ colon ∷ token begin_object ∷ token (string (codes "startLine")) ∷ colon ∷ []

pub region_front : Opens (codes "},\"region\":{\"startLine\":") region_lexemes
unfolding lex content
region_front = record { utf8 = IsUtf8-are_ascii _ refl; ends = λ rest. refl; read = λ rest. refl }

abbrev pub start_column_lexemes : List Lexeme
start_column_lexemes = comma ∷ token (string (codes "startColumn")) ∷ colon ∷ []

pub start_column_front : Opens (codes ",\"startColumn\":") start_column_lexemes
unfolding lex content
start_column_front = record { utf8 = IsUtf8-are_ascii _ refl; ends = λ rest. refl; read = λ rest. refl }

abbrev pub end_line_lexemes : List Lexeme
end_line_lexemes = comma ∷ token (string (codes "endLine")) ∷ colon ∷ []

pub end_line_front : Opens (codes ",\"endLine\":") end_line_lexemes
unfolding lex content
end_line_front = record { utf8 = IsUtf8-are_ascii _ refl; ends = λ rest. refl; read = λ rest. refl }

abbrev pub end_column_lexemes : List Lexeme
end_column_lexemes = comma ∷ token (string (codes "endColumn")) ∷ colon ∷ []

pub end_column_front : Opens (codes ",\"endColumn\":") end_column_lexemes
unfolding lex content
end_column_front = record { utf8 = IsUtf8-are_ascii _ refl; ends = λ rest. refl; read = λ rest. refl }

abbrev pub fixes_lexemes : List Lexeme
fixes_lexemes = comma ∷ token (string (codes "fixes")) ∷ colon ∷ token begin_array ∷ token begin_object ∷ token (string (codes "description")) ∷ colon ∷ token begin_object ∷ token (string (codes "text")) ∷ colon ∷ []

pub fixes_front : Opens (codes ",\"fixes\":[{\"description\":{\"text\":") fixes_lexemes
unfolding lex content
fixes_front = record { utf8 = IsUtf8-are_ascii _ refl; ends = λ rest. refl; read = λ rest. refl }

abbrev pub changes_lexemes : List Lexeme
changes_lexemes = token end_object ∷ comma ∷ token (string (codes "artifactChanges")) ∷ colon ∷ token begin_array ∷ token begin_object ∷ token (string (codes "artifactLocation")) ∷ colon ∷ token begin_object ∷ token (string (codes "uri")) ∷ colon ∷ []

pub changes_front : Opens (codes "},\"artifactChanges\":[{\"artifactLocation\":{\"uri\":") changes_lexemes
unfolding lex content
changes_front = record { utf8 = IsUtf8-are_ascii _ refl; ends = λ rest. refl; read = λ rest. refl }

abbrev pub deleted_lexemes : List Lexeme
deleted_lexemes = token begin_object ∷ token (string (codes "deletedRegion")) ∷ colon ∷ token begin_object ∷ token (string (codes "startLine")) ∷ colon ∷ []

pub deleted_front : Opens (codes "{\"deletedRegion\":{\"startLine\":") deleted_lexemes
unfolding lex content
deleted_front = record { utf8 = IsUtf8-are_ascii _ refl; ends = λ rest. refl; read = λ rest. refl }

abbrev pub inserted_lexemes : List Lexeme
inserted_lexemes = token end_object ∷ comma ∷ token (string (codes "insertedContent")) ∷ colon ∷ token begin_object ∷ token (string (codes "text")) ∷ colon ∷ []

pub inserted_front : Opens (codes "},\"insertedContent\":{\"text\":") inserted_lexemes
unfolding lex content
inserted_front = record { utf8 = IsUtf8-are_ascii _ refl; ends = λ rest. refl; read = λ rest. refl }

abbrev pub locations_lexemes : List Lexeme
locations_lexemes = token end_object ∷ comma ∷ token (string (codes "locations")) ∷ colon ∷ token begin_array ∷ token begin_object ∷ token (string (codes "physicalLocation")) ∷ colon ∷ []

pub locations_piece : Lexes (codes "},\"locations\":[{\"physicalLocation\":") locations_lexemes
unfolding lex content
locations_piece = record { utf8 = IsUtf8-are_ascii _ refl; ends = λ rest h. refl; read = λ rest h. refl }

abbrev pub located_lexemes : List Lexeme
located_lexemes = token end_object ∷ token end_object ∷ token end_object ∷ token end_array ∷ []

pub located_piece : Lexes (codes "}}}]") located_lexemes
unfolding lex content
located_piece = record { utf8 = IsUtf8-are_ascii _ refl; ends = λ rest h. refl; read = λ rest h. refl }

abbrev pub replacements_lexemes : List Lexeme
replacements_lexemes = token end_object ∷ comma ∷ token (string (codes "replacements")) ∷ colon ∷ token begin_array ∷ []

pub replacements_piece : Lexes (codes "},\"replacements\":[") replacements_lexemes
unfolding lex content
replacements_piece = record { utf8 = IsUtf8-are_ascii _ refl; ends = λ rest h. refl; read = λ rest h. refl }

abbrev pub fixed_lexemes : List Lexeme
fixed_lexemes = token end_object ∷ token end_object ∷ token end_array ∷ token end_object ∷ token end_array ∷ token end_object ∷ token end_array ∷ []

pub fixed_piece : Lexes (codes "}}]}]}]") fixed_lexemes
unfolding lex content
fixed_piece = record { utf8 = IsUtf8-are_ascii _ refl; ends = λ rest h. refl; read = λ rest h. refl }

abbrev pub further_lexemes : List Lexeme
further_lexemes = comma ∷ token (string (codes "properties")) ∷ colon ∷ token begin_object ∷ token (string (codes "further")) ∷ colon ∷ token (boolean true) ∷ token end_object ∷ []

pub further_piece : Lexes (codes ",\"properties\":{\"further\":true}") further_lexemes
unfolding lex content word
further_piece = record { utf8 = IsUtf8-are_ascii _ refl; ends = λ rest h. refl; read = λ rest h. refl }

abbrev pub closing_lexemes : List Lexeme
closing_lexemes = token end_object ∷ []

pub closing_piece : Lexes (codes "}\n") closing_lexemes
unfolding lex content
closing_piece = record { utf8 = IsUtf8-are_ascii _ refl; ends = λ rest h. refl; read = λ rest h. refl }

abbrev pub note_closing_lexemes : List Lexeme
note_closing_lexemes = token end_object ∷ token end_object ∷ token end_object ∷ token end_array ∷ token end_object ∷ []

pub note_closing_piece : Lexes (codes "}}}]}\n") note_closing_lexemes
unfolding lex content
note_closing_piece = record { utf8 = IsUtf8-are_ascii _ refl; ends = λ rest h. refl; read = λ rest h. refl }
