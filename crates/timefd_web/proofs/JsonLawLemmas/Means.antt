-- From lexemes to the value of a text.
use Rattle.std.proofs.Common.{◌≡◌, ◌≤◌, List, [], ◌++◌, Some, option_and_then, refl, sym, ap, ◌∙◌, append-nil}
use Rattle.json.specs.Json.{Json, document, if_last, max_depth, value}
use Rattle.json.specs.Lex.{Lexeme, lex, punctuate, fresh, tokens}
use Rattle.json.specs.Tree.{json_tokens, depth}
use Rattle.json.proofs.Printed.Trees.{value-json_tokens}
use Rattle.timefd_parse.specs.Tree.{Text}
use Rattle.timefd_web.proofs.JsonLawLemmas.Pieces.{Lexes}

pub tokens_of : (text : Text) (ls : List Lexeme) → Lexes text ls → tokens text ≡ punctuate fresh (ls ++ [])
unfolding lex
tokens_of text ls p = ap tokens (sym (append-nil text)) ∙ ap (punctuate fresh) (p.read [] refl)

pub means_of : (text : Text) (j : Json) → tokens text ≡ json_tokens j → depth j ≤ max_depth → document text ≡ Some j
means_of text j e shallow =
    ap (option_and_then (λ p. if_last p.0 p.1))
    (ap (value max_depth) (e ∙ sym (append-nil (json_tokens j))) ∙ value-json_tokens j max_depth [] shallow)
