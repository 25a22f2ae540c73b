-- A list of objects is an array.
use Rattle.std.proofs.Common.{◌≡◌, ◌≤◌, List, [], ◌∷◌, ◌++◌, codes, flat_map, map, refl, ap, ◌∙◌, subst, arith, append_assoc}
use Rattle.json.specs.Text.{content}
use Rattle.json.specs.Token.{begin_array, end_array}
use Rattle.json.specs.Json.{Json}
use Rattle.json.specs.Lex.{Lexeme, token, lex, punctuate, fresh, after_value}
use Rattle.json.specs.Strict.{ItemsHaveUniqueKeys}
use Rattle.json.specs.Tree.{items_tokens, items_depth}
use Rattle.json.specs.Value.{items_of}
use Rattle.json.proofs.Printed.Utf8.{IsUtf8-are_ascii}
use Rattle.timefd_parse.specs.Tree.{Text}
use Rattle.timefd_web.specs.JsonLaws.Logs.{All}
use Rattle.timefd_web.proofs.JsonLawLemmas.Fields.{then}
use Rattle.timefd_web.proofs.JsonLawLemmas.Lists.{AreMembers, no_members, more_members}
use Rattle.timefd_web.proofs.JsonLawLemmas.Pieces.{Lexes}
use Rattle.timefd_web.proofs.JsonLawLemmas.Results.{IsNext}
use Rattle.timefd_web.specs.Records.{after_comma, listed}

-- The text is an array of these values.
pub record IsArray (text : Text) (js : List Json) : Type 0 where
  pub ls : List Lexeme
  pub lexed : Lexes text (token begin_array ∷ ls)
  pub tokens : (more : List Lexeme)
      → punctuate fresh (ls ++ more) ≡ items_tokens (items_of js) ++ punctuate after_value more
  pub shallow : items_depth (items_of js) ≤ 100
  pub distinct : ItemsHaveUniqueKeys (items_of js)

empty_piece : Lexes (codes "[]") (token begin_array ∷ token end_array ∷ [])
unfolding lex content
empty_piece = record { utf8 = IsUtf8-are_ascii _ refl; ends = λ rest h. refl; read = λ rest h. refl }

open_piece : Lexes (codes "[") (token begin_array ∷ [])
unfolding lex content
open_piece = record { utf8 = IsUtf8-are_ascii _ refl; ends = λ rest h. refl; read = λ rest h. refl }

close_piece : Lexes (codes "]") (token end_array ∷ [])
unfolding lex content
close_piece = record { utf8 = IsUtf8-are_ascii _ refl; ends = λ rest h. refl; read = λ rest h. refl }

module _ {X : Type 0} (object : X → Text) (value : X → Json) (Proper : X → Type 0)
    (next : (x : X) → Proper x → IsNext (object x) (value x)) where
  members : (xs : List X) → All Proper xs
      → AreMembers (flat_map (after_comma object) xs) (map value xs)
  members [] are = no_members
  members (x ∷ xs) are =
      more_members (object x) (flat_map (after_comma object) xs) (value x) (map value xs)
      (next x are.0) (members xs are.1)

  empty_tokens : (more : List Lexeme)
      → punctuate fresh (token end_array ∷ more) ≡ items_tokens (items_of []) ++ punctuate after_value more
  unfolding punctuate
  empty_tokens more = refl

  some_lexed : (x : X) (xs : List X) (m : AreMembers (flat_map (after_comma object) (x ∷ xs)) (map value (x ∷ xs)))
      → Lexes (listed object (x ∷ xs)) (token begin_array ∷ (m.first_ls ++ token end_array ∷ []))
  some_lexed x xs m =
      let others = flat_map (after_comma object) xs in
      then open_piece (subst (λ t. Lexes t (m.first_ls ++ token end_array ∷ []))
      (append_assoc (object x) others (codes "]")) (then m.first_lexed close_piece))

  pub array_of : (xs : List X) → All Proper xs → IsArray (listed object xs) (map value xs)
  array_of [] are = record {
    ls = token end_array ∷ [];
    lexed = empty_piece;
    tokens = empty_tokens;
    shallow = omega arith;
    distinct = tt;
  }
  array_of (x ∷ xs) are =
      let m = members (x ∷ xs) are in
      record {
        ls = m.first_ls ++ token end_array ∷ [];
        lexed = some_lexed x xs m;
        tokens = λ more.
            ap (punctuate fresh) (append_assoc m.first_ls (token end_array ∷ []) more) ∙ m.first more;
        shallow = m.shallow;
        distinct = m.distinct;
      }
