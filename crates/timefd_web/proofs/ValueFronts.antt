-- What comes before each value of an object, and the lexemes that it is.
use Rattle.std.proofs.Common.{Bool, true, false, List, [], ◌∷◌, ◌++◌, codes, refl, ap₂, IsUtf8}
use Rattle.json.specs.Text.{content}
use Rattle.json.specs.Token.{end_object, string, boolean, bad}
use Rattle.json.specs.Word.{word}
use Rattle.json.specs.Lex.{Lexeme, token, comma, colon, lex}
use Rattle.json.proofs.Printed.Numbers.{in_word-ended}
use Rattle.json.proofs.Printed.Utf8.{IsUtf8-are_ascii}
use Rattle.std.specs.Prelude.{cond}
use Rattle.timefd_parse.specs.Tree.{Text}
use Rattle.timefd_web.proofs.JsonLawLemmas.Fronts.{first_key, next_key}
use Rattle.timefd_web.proofs.JsonLawLemmas.Pieces.{Lexes, Opens}
use Rattle.timefd_web.specs.Records.{truth_field}

-- An object that says whether there is a conversion, and the key after that.
abbrev pub converted_keys : Bool → Text → List Lexeme
converted_keys is_so key = first_key (codes "converted") ++ (token (boolean is_so) ∷ next_key key)

pub version_front : Opens (codes "{\"converted\":true,\"version_3\":") (converted_keys true (codes "version_3"))
unfolding lex content word
version_front = record { utf8 = IsUtf8-are_ascii _ refl; ends = λ rest. refl; read = λ rest. refl }

pub format_front : Opens (codes "{\"converted\":true,\"format\":") (converted_keys true (codes "format"))
unfolding lex content word
format_front = record { utf8 = IsUtf8-are_ascii _ refl; ends = λ rest. refl; read = λ rest. refl }

pub reason_front : Opens (codes "{\"converted\":false,\"reason\":") (converted_keys false (codes "reason"))
unfolding lex content word
reason_front = record { utf8 = IsUtf8-are_ascii _ refl; ends = λ rest. refl; read = λ rest. refl }

pub lack_front : Opens (codes "{\"converted\":false,\"message\":") (converted_keys false (codes "message"))
unfolding lex content word
lack_front = record { utf8 = IsUtf8-are_ascii _ refl; ends = λ rest. refl; read = λ rest. refl }

pub year_front : Opens (codes ",\"first_year\":") (next_key (codes "first_year"))
unfolding lex content
year_front = record { utf8 = IsUtf8-are_ascii _ refl; ends = λ rest. refl; read = λ rest. refl }

pub traps_front : Opens (codes ",\"traps\":") (next_key (codes "traps"))
unfolding lex content
traps_front = record { utf8 = IsUtf8-are_ascii _ refl; ends = λ rest. refl; read = λ rest. refl }

pub guesses_front : Opens (codes "{\"guesses\":") (first_key (codes "guesses"))
unfolding lex content
guesses_front = record { utf8 = IsUtf8-are_ascii _ refl; ends = λ rest. refl; read = λ rest. refl }

pub texts_front : Opens (codes ",\"texts\":") (next_key (codes "texts"))
unfolding lex content
texts_front = record { utf8 = IsUtf8-are_ascii _ refl; ends = λ rest. refl; read = λ rest. refl }

pub undecided_front : Opens (codes ",\"undecided\":") (next_key (codes "undecided"))
unfolding lex content
undecided_front = record { utf8 = IsUtf8-are_ascii _ refl; ends = λ rest. refl; read = λ rest. refl }

-- Objects after a comma.

pub trap_front : Opens (codes ",{\"trap\":") (comma ∷ first_key (codes "trap"))
unfolding lex content
trap_front = record { utf8 = IsUtf8-are_ascii _ refl; ends = λ rest. refl; read = λ rest. refl }

pub description_front : Opens (codes ",{\"description\":") (comma ∷ first_key (codes "description"))
unfolding lex content
description_front = record { utf8 = IsUtf8-are_ascii _ refl; ends = λ rest. refl; read = λ rest. refl }

pub closing : Lexes (codes "}") (token end_object ∷ [])
unfolding lex content
closing = record { utf8 = IsUtf8-are_ascii _ refl; ends = λ rest h. refl; read = λ rest h. refl }

abbrev pub minutes_key : List Lexeme
minutes_key = next_key (codes "whole_minutes")

pub minutes_lexed : (is_so : Bool)
    → Lexes (truth_field (codes ",\"whole_minutes\":") is_so) (minutes_key ++ token (boolean is_so) ∷ [])
unfolding lex content word
minutes_lexed true = record {
  utf8 = IsUtf8-are_ascii _ refl;
  ends = λ rest h. refl;
  read = λ rest h.
      ap₂ (λ b l. comma ∷ token (string (codes "whole_minutes")) ∷ colon ∷ token (cond b (boolean true) bad) ∷ l) h
      (in_word-ended rest h);
}
minutes_lexed false = record {
  utf8 = IsUtf8-are_ascii _ refl;
  ends = λ rest h. refl;
  read = λ rest h.
      ap₂ (λ b l. comma ∷ token (string (codes "whole_minutes")) ∷ colon ∷ token (cond b (boolean false) bad) ∷ l) h
      (in_word-ended rest h);
}

pub lack_utf8 : IsUtf8 (codes "no directive writes this component")
lack_utf8 = IsUtf8-are_ascii _ refl

pub merged_utf8 : IsUtf8 (codes "parts side by side would mean something else")
merged_utf8 = IsUtf8-are_ascii _ refl
