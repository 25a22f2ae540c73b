-- Pieces of a text, and the lexemes that they are.
use Rattle.std.proofs.Common.{◌≡◌, ℕ, ◌^◌, ◌<◌, true, List, [], ◌∷◌, ◌++◌, Some, decimal, refl, sym, ap, ap₂, ◌∙◌, IsUtf8, append_assoc, append-nil}
use Rattle.std.proofs.lemmas.Str.{IsUtf8-append, IsUtf8-nil}
use Rattle.json.specs.Text.{content, plain}
use Rattle.json.specs.Token.{string, number}
use Rattle.json.specs.Word.{ends_word}
use Rattle.json.specs.Lex.{Lexeme, token, string_token, lex, between, in_string}
use Rattle.json.proofs.Printed.Decimals.{IsNumber-decimal}
use Rattle.json.proofs.Printed.Numbers.{lex-number}
use Rattle.timefd_parse.specs.Tree.{Text}
use Rattle.timefd_web.proofs.JsonLawLemmas.Escapes.{Passes}

-- The text begins with what ends a word, and is these lexemes where such follows it.
pub record Lexes (text : Text) (ls : List Lexeme) : Type 0 where
  pub utf8 : IsUtf8 text
  pub ends : (rest : Text) → ends_word rest ≡ true → ends_word (text ++ rest) ≡ true
  pub read : (rest : Text) → ends_word rest ≡ true → lex between (text ++ rest) ≡ ls ++ lex between rest

-- The same, whatever follows it.
pub record Opens (text : Text) (ls : List Lexeme) : Type 0 where
  pub utf8 : IsUtf8 text
  pub ends : (rest : Text) → ends_word (text ++ rest) ≡ true
  pub read : (rest : Text) → lex between (text ++ rest) ≡ ls ++ lex between rest

pub closed : (text : Text) (ls : List Lexeme) → Opens text ls → Lexes text ls
closed text ls o = record { utf8 = o.utf8; ends = λ rest h. o.ends rest; read = λ rest h. o.read rest }

pub no_piece : Lexes [] []
no_piece = record { utf8 = IsUtf8-nil; ends = λ rest h. h; read = λ rest h. refl }

pub both : (a b : Text) (la lb : List Lexeme) → Lexes a la → Lexes b lb → Lexes (a ++ b) (la ++ lb)
both a b la lb p q = record {
  utf8 = IsUtf8-append a b p.utf8 q.utf8;
  ends = λ rest h. ap ends_word (append_assoc a b rest) ∙ p.ends (b ++ rest) (q.ends rest h);
  read = λ rest h.
      ap (lex between) (append_assoc a b rest) ∙ p.read (b ++ rest) (q.ends rest h) ∙ ap (λ l. la ++ l) (q.read rest h)
      ∙ sym (append_assoc la lb (lex between rest));
}

quoted_content : (others bytes rest : Text) → Passes bytes others → content plain (bytes ++ 34 ∷ rest) ≡ Some others
unfolding content
quoted_content others bytes rest p = p.read (34 ∷ rest) ∙ ap Some (append-nil others)

quoted_lexed : (others bytes rest : Text) → Passes bytes others → lex in_string (bytes ++ 34 ∷ rest) ≡ lex between rest
unfolding lex
quoted_lexed others bytes rest p = p.lexed (34 ∷ rest)

-- Bytes between quotes are a string.
pub string_read : (others bytes rest : Text) → Passes bytes others
    → lex between (34 ∷ (bytes ++ 34 ∷ []) ++ rest) ≡ token (string others) ∷ lex between rest
unfolding lex
string_read others bytes rest p =
    ap (λ l. lex between (34 ∷ l)) (append_assoc bytes (34 ∷ []) rest)
    ∙ ap₂ (λ o l. token (string_token o) ∷ l) (quoted_content others bytes rest p) (quoted_lexed others bytes rest p)

-- A string after what comes before it.
pub string_after : (front bytes others : Text) (ls : List Lexeme) → Opens front ls → IsUtf8 (34 ∷ (bytes ++ 34 ∷ []))
    → Passes bytes others → Opens (front ++ 34 ∷ (bytes ++ 34 ∷ [])) (ls ++ token (string others) ∷ [])
string_after front bytes others ls o utf8 p =
    let all = 34 ∷ (bytes ++ 34 ∷ []) in
    record {
      utf8 = IsUtf8-append front all o.utf8 utf8;
      ends = λ rest. ap ends_word (append_assoc front all rest) ∙ o.ends (all ++ rest);
      read = λ rest.
          ap (lex between) (append_assoc front all rest) ∙ o.read (all ++ rest)
          ∙ ap (λ l. ls ++ l) (string_read others bytes rest p)
          ∙ sym (append_assoc ls (token (string others) ∷ []) (lex between rest));
    }

-- A number after what comes before it.
pub number_after : (front : Text) (n : ℕ) (ls : List Lexeme) → Opens front ls → n < 2 ^ 64 → IsUtf8 (decimal n)
    → Lexes (front ++ decimal n) (ls ++ token (number (decimal n)) ∷ [])
number_after front n ls o small utf8 = record {
  utf8 = IsUtf8-append front (decimal n) o.utf8 utf8;
  ends = λ rest h. ap ends_word (append_assoc front (decimal n) rest) ∙ o.ends (decimal n ++ rest);
  read = λ rest h.
      ap (lex between) (append_assoc front (decimal n) rest) ∙ o.read (decimal n ++ rest)
      ∙ ap (λ l. ls ++ l) (lex-number (decimal n) rest (IsNumber-decimal n small) h)
      ∙ sym (append_assoc ls (token (number (decimal n)) ∷ []) (lex between rest));
}
