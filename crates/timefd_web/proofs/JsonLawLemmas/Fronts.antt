-- What comes before each value of an object, and the lexemes that it is.
use Rattle.std.proofs.Common.{true, List, [], ◌∷◌, ◌++◌, codes, refl, ap₂, IsUtf8}
use Rattle.json.specs.Text.{content}
use Rattle.json.specs.Token.{begin_object, end_object, string, boolean, bad}
use Rattle.json.specs.Word.{word}
use Rattle.json.specs.Lex.{Lexeme, token, comma, colon, lex}
use Rattle.json.proofs.Printed.Numbers.{in_word-ended}
use Rattle.json.proofs.Printed.Utf8.{IsUtf8-are_ascii}
use Rattle.std.specs.Prelude.{cond}
use Rattle.timefd_parse.specs.Tree.{Text}
use Rattle.timefd_web.proofs.JsonLawLemmas.Pieces.{Lexes, Opens}

abbrev pub first_key : Text → List Lexeme
first_key key = token begin_object ∷ token (string key) ∷ colon ∷ []

abbrev pub next_key : Text → List Lexeme
next_key key = comma ∷ token (string key) ∷ colon ∷ []

pub code_front : Opens (codes "{\"code\":") (first_key (codes "code"))
unfolding lex content
code_front = record { utf8 = IsUtf8-are_ascii _ refl; ends = λ rest. refl; read = λ rest. refl }

pub column_front : Opens (codes ",\"column\":") (next_key (codes "column"))
unfolding lex content
column_front = record { utf8 = IsUtf8-are_ascii _ refl; ends = λ rest. refl; read = λ rest. refl }

pub end_front : Opens (codes ",\"end\":") (next_key (codes "end"))
unfolding lex content
end_front = record { utf8 = IsUtf8-are_ascii _ refl; ends = λ rest. refl; read = λ rest. refl }

pub file_front : Opens (codes ",\"file\":") (next_key (codes "file"))
unfolding lex content
file_front = record { utf8 = IsUtf8-are_ascii _ refl; ends = λ rest. refl; read = λ rest. refl }

pub help_front : Opens (codes ",\"help\":") (next_key (codes "help"))
unfolding lex content
help_front = record { utf8 = IsUtf8-are_ascii _ refl; ends = λ rest. refl; read = λ rest. refl }

pub line_front : Opens (codes ",\"line\":") (next_key (codes "line"))
unfolding lex content
line_front = record { utf8 = IsUtf8-are_ascii _ refl; ends = λ rest. refl; read = λ rest. refl }

pub message_front : Opens (codes ",\"message\":") (next_key (codes "message"))
unfolding lex content
message_front = record { utf8 = IsUtf8-are_ascii _ refl; ends = λ rest. refl; read = λ rest. refl }

pub replacement_front : Opens (codes ",\"replacement\":") (next_key (codes "replacement"))
unfolding lex content
replacement_front = record { utf8 = IsUtf8-are_ascii _ refl; ends = λ rest. refl; read = λ rest. refl }

pub severity_front : Opens (codes ",\"severity\":") (next_key (codes "severity"))
unfolding lex content
severity_front = record { utf8 = IsUtf8-are_ascii _ refl; ends = λ rest. refl; read = λ rest. refl }

pub start_front : Opens (codes ",\"start\":") (next_key (codes "start"))
unfolding lex content
start_front = record { utf8 = IsUtf8-are_ascii _ refl; ends = λ rest. refl; read = λ rest. refl }

pub closing : Lexes (codes "}\n") (token end_object ∷ [])
unfolding lex content
closing = record { utf8 = IsUtf8-are_ascii _ refl; ends = λ rest h. refl; read = λ rest h. refl }

pub further_piece : Lexes (codes ",\"further\":true") (next_key (codes "further") ++ token (boolean true) ∷ [])
unfolding lex content word
further_piece = record {
  utf8 = IsUtf8-are_ascii _ refl;
  ends = λ rest h. refl;
  read = λ rest h.
      ap₂ (λ b l. comma ∷ token (string (codes "further")) ∷ colon ∷ token (cond b (boolean true) bad) ∷ l) h
      (in_word-ended rest h);
}
