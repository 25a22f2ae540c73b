-- What comes before each value of a report, and the lexemes that it is.
use Rattle.std.proofs.Common.{Bool, true, false, List, [], ◌∷◌, ◌++◌, codes, refl, ap₂}
use Rattle.json.specs.Text.{content}
use Rattle.json.specs.Token.{end_object, string, boolean, null, bad}
use Rattle.json.specs.Word.{word}
use Rattle.json.specs.Lex.{Lexeme, token, comma, colon, lex}
use Rattle.json.proofs.Printed.Numbers.{in_word-ended}
use Rattle.json.proofs.Printed.Utf8.{IsUtf8-are_ascii}
use Rattle.std.specs.Prelude.{cond}
use Rattle.timefd_parse.specs.Tree.{Text}
use Rattle.timefd_web.proofs.JsonLawLemmas.Fronts.{first_key, next_key}
use Rattle.timefd_web.proofs.JsonLawLemmas.Pieces.{Lexes, Opens}

-- A key whose value is true or false, and the key after that.
abbrev pub two_keys : Text → Bool → Text → List Lexeme
two_keys first is_so key = first_key first ++ (token (boolean is_so) ∷ next_key key)

pub code_front : Opens (codes "{\"accepted\":false,\"code\":") (two_keys (codes "accepted") false (codes "code"))
unfolding lex content word
code_front = record { utf8 = IsUtf8-are_ascii _ refl; ends = λ rest. refl; read = λ rest. refl }

pub nearest_front : Opens (codes ",\"nearest\":") (next_key (codes "nearest"))
unfolding lex content
nearest_front = record { utf8 = IsUtf8-are_ascii _ refl; ends = λ rest. refl; read = λ rest. refl }

pub reserved_front : Opens (codes "{\"accepted\":true,\"bytes\":") (two_keys (codes "accepted") true (codes "bytes"))
unfolding lex content word
reserved_front = record { utf8 = IsUtf8-are_ascii _ refl; ends = λ rest. refl; read = λ rest. refl }

pub nodes_front : Opens (codes ",\"nodes\":") (next_key (codes "nodes"))
unfolding lex content
nodes_front = record { utf8 = IsUtf8-are_ascii _ refl; ends = λ rest. refl; read = λ rest. refl }

pub version_front : Opens (codes ",\"version_3\":") (next_key (codes "version_3"))
unfolding lex content
version_front = record { utf8 = IsUtf8-are_ascii _ refl; ends = λ rest. refl; read = λ rest. refl }

-- A node after a comma.

pub depth_front : Opens (codes ",{\"depth\":") (comma ∷ first_key (codes "depth"))
unfolding lex content
depth_front = record { utf8 = IsUtf8-are_ascii _ refl; ends = λ rest. refl; read = λ rest. refl }

pub bytes_front : Opens (codes ",\"bytes\":") (next_key (codes "bytes"))
unfolding lex content
bytes_front = record { utf8 = IsUtf8-are_ascii _ refl; ends = λ rest. refl; read = λ rest. refl }

pub kind_front : Opens (codes ",\"kind\":") (next_key (codes "kind"))
unfolding lex content
kind_front = record { utf8 = IsUtf8-are_ascii _ refl; ends = λ rest. refl; read = λ rest. refl }

pub words_front : Opens (codes ",\"words\":") (next_key (codes "words"))
unfolding lex content
words_front = record { utf8 = IsUtf8-are_ascii _ refl; ends = λ rest. refl; read = λ rest. refl }

pub example_front : Opens (codes ",\"example\":") (next_key (codes "example"))
unfolding lex content
example_front = record { utf8 = IsUtf8-are_ascii _ refl; ends = λ rest. refl; read = λ rest. refl }

-- Texts that may be null.

pub written_front : Opens (codes ",\"written\":") (next_key (codes "written"))
unfolding lex content
written_front = record { utf8 = IsUtf8-are_ascii _ refl; ends = λ rest. refl; read = λ rest. refl }

pub written_null : Lexes (codes ",\"written\":null") (next_key (codes "written") ++ token null ∷ [])
unfolding lex content word
written_null = record {
  utf8 = IsUtf8-are_ascii _ refl;
  ends = λ rest h. refl;
  read = λ rest h.
      ap₂ (λ b l. comma ∷ token (string (codes "written")) ∷ colon ∷ token (cond b null bad) ∷ l) h
      (in_word-ended rest h);
}

pub two_front : Opens (codes ",\"version_2\":") (next_key (codes "version_2"))
unfolding lex content
two_front = record { utf8 = IsUtf8-are_ascii _ refl; ends = λ rest. refl; read = λ rest. refl }

pub two_null : Lexes (codes ",\"version_2\":null") (next_key (codes "version_2") ++ token null ∷ [])
unfolding lex content word
two_null = record {
  utf8 = IsUtf8-are_ascii _ refl;
  ends = λ rest h. refl;
  read = λ rest h.
      ap₂ (λ b l. comma ∷ token (string (codes "version_2")) ∷ colon ∷ token (cond b null bad) ∷ l) h
      (in_word-ended rest h);
}

-- Texts that are read.

pub moment_front : Opens (codes "{\"read\":true,\"moment\":") (two_keys (codes "read") true (codes "moment"))
unfolding lex content word
moment_front = record { utf8 = IsUtf8-are_ascii _ refl; ends = λ rest. refl; read = λ rest. refl }

pub unread_front : Opens (codes "{\"read\":false,\"message\":") (two_keys (codes "read") false (codes "message"))
unfolding lex content word
unread_front = record { utf8 = IsUtf8-are_ascii _ refl; ends = λ rest. refl; read = λ rest. refl }

pub component_front : Opens (codes ",\"component\":") (next_key (codes "component"))
unfolding lex content
component_front = record { utf8 = IsUtf8-are_ascii _ refl; ends = λ rest. refl; read = λ rest. refl }

abbrev pub nothing_lexemes : List Lexeme
nothing_lexemes = first_key (codes "read") ++ (token (boolean false) ∷ token end_object ∷ [])

pub nothing_piece : Lexes (codes "{\"read\":false}") nothing_lexemes
unfolding lex content word
nothing_piece = record { utf8 = IsUtf8-are_ascii _ refl; ends = λ rest h. refl; read = λ rest h. refl }
