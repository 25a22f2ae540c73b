-- Values in a list, each after a comma.
use Rattle.std.proofs.Common.{◌≡◌, ◌≤◌, List, [], ◌∷◌, ◌++◌, drop, refl, sym, ap, ◌∙◌, arith, append_assoc}
use Rattle.json.specs.Token.{end_array}
use Rattle.json.specs.Json.{Json}
use Rattle.json.specs.Lex.{Lexeme, token, comma, punctuate, fresh, after_value, after_comma}
use Rattle.json.specs.Strict.{ItemsHaveUniqueKeys}
use Rattle.json.specs.Tree.{json_tokens, items_tokens, items_depth}
use Rattle.json.specs.Value.{items_of}
use Rattle.timefd_parse.specs.Tree.{Text}
use Rattle.timefd_web.proofs.JsonLawLemmas.Pieces.{Lexes, both, no_piece}
use Rattle.timefd_web.proofs.JsonLawLemmas.Results.{IsNext, alone}

-- A text of these values, each after a comma, and the same without the first comma.
pub record AreMembers (text : Text) (js : List Json) : Type 0 where
  pub ls : List Lexeme
  pub lexed : Lexes text ls
  pub next : (more : List Lexeme)
      → punctuate after_value (ls ++ token end_array ∷ more) ≡ items_tokens (items_of js) ++ punctuate after_value more
  pub first_ls : List Lexeme
  pub first_lexed : Lexes (drop 1 text) first_ls
  pub first : (more : List Lexeme)
      → punctuate fresh (first_ls ++ token end_array ∷ more) ≡ items_tokens (items_of js) ++ punctuate after_value more
  pub shallow : items_depth (items_of js) ≤ 100
  pub distinct : ItemsHaveUniqueKeys (items_of js)

pub no_members : AreMembers [] []
unfolding punctuate
no_members = record {
  ls = [];
  lexed = no_piece;
  next = λ more. refl;
  first_ls = [];
  first_lexed = no_piece;
  first = λ more. refl;
  shallow = omega arith;
  distinct = tt;
}

pub more_members : (text others : Text) (j : Json) (js : List Json) → IsNext text j → AreMembers others js
    → AreMembers ((44 ∷ text) ++ others) (j ∷ js)
unfolding punctuate
more_members text others j js n m = record {
  ls = (comma ∷ n.ls) ++ m.ls;
  lexed = both (44 ∷ text) others (comma ∷ n.ls) m.ls n.lexed m.lexed;
  next = λ more.
      ap (punctuate after_comma) (append_assoc n.ls m.ls (token end_array ∷ more)) ∙ n.next (m.ls ++ token end_array ∷ more)
      ∙ ap (λ ts. json_tokens j ++ ts) (m.next more)
      ∙ sym (append_assoc (json_tokens j) (items_tokens (items_of js)) (punctuate after_value more));
  first_ls = n.ls ++ m.ls;
  first_lexed = both text others n.ls m.ls (alone text j n) m.lexed;
  first = λ more.
      ap (punctuate fresh) (append_assoc n.ls m.ls (token end_array ∷ more)) ∙ n.first (m.ls ++ token end_array ∷ more)
      ∙ ap (λ ts. json_tokens j ++ ts) (m.next more)
      ∙ sym (append_assoc (json_tokens j) (items_tokens (items_of js)) (punctuate after_value more));
  shallow = omega (arith, n.shallow, m.shallow);
  distinct = (n.distinct, m.distinct);
}
