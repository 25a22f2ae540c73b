-- Fields of an object, and the lexemes that they are.
use Rattle.std.proofs.Common.{ℕ, ◌^◌, ◌<◌, List, [], ◌∷◌, ◌++◌, decimal, IsUtf8}
use Rattle.std.proofs.lemmas.Fmt.{IsAscii-decimal}
use Rattle.std.proofs.lemmas.Str.{IsUtf8-from_ascii}
use Rattle.json.specs.Token.{string, number}
use Rattle.json.specs.Lex.{Lexeme, token}
use Rattle.timefd_parse.specs.Tree.{Text}
use Rattle.timefd_lint_drawing.specs.Json.{all_escaped, number_field, text_field}
use Rattle.timefd_web.proofs.JsonLawLemmas.Encoded.{quoted_utf8}
use Rattle.timefd_web.proofs.JsonLawLemmas.Escapes.{text_passes}
use Rattle.timefd_web.proofs.JsonLawLemmas.Pieces.{Lexes, Opens, both, closed, string_after, number_after}

pub text_lexed : (front text : Text) (ls : List Lexeme) → Opens front ls → IsUtf8 text
    → Lexes (text_field front text) (ls ++ token (string text) ∷ [])
text_lexed front text ls o utf8 =
    closed (text_field front text) (ls ++ token (string text) ∷ [])
    (string_after front (all_escaped text) text ls o (quoted_utf8 text utf8) (text_passes text utf8))

pub number_lexed : (front : Text) (n : ℕ) (ls : List Lexeme) → Opens front ls → n < 2 ^ 64
    → Lexes (number_field front n) (ls ++ token (number (decimal n)) ∷ [])
number_lexed front n ls o small =
    number_after front n ls o small (IsUtf8-from_ascii (decimal n) (IsAscii-decimal n small))

abbrev pub strings : Text → List Lexeme
strings text = token (string text) ∷ []

abbrev pub numbers : ℕ → List Lexeme
numbers n = token (number (decimal n)) ∷ []

-- A text, and after it a piece.
abbrev pub then : {a b : Text} {la lb : List Lexeme} → Lexes a la → Lexes b lb → Lexes (a ++ b) (la ++ lb)
then {a} {b} {la} {lb} p q = both a b la lb p q
