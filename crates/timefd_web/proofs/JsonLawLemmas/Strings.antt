-- A text in quotes is a string.
use Rattle.std.proofs.Common.{◌≡◌, [], sym, ap, ◌∙◌, IsUtf8, append-nil, arith}
use Rattle.json.specs.Json.{string}
use Rattle.json.specs.Lex.{lex, punctuate, fresh, tokens}
use Rattle.json.specs.Tree.{json_tokens}
use Rattle.timefd_parse.specs.Tree.{Text}
use Rattle.timefd_lint_drawing.specs.Json.{all_escaped, quoted}
use Rattle.timefd_web.specs.JsonLaws.Meaning.{StringsReadBack}
use Rattle.timefd_web.proofs.JsonLawLemmas.Encoded.{quoted_utf8}
use Rattle.timefd_web.proofs.JsonLawLemmas.Escapes.{text_passes}
use Rattle.timefd_web.proofs.JsonLawLemmas.Means.{means_of}
use Rattle.timefd_web.proofs.JsonLawLemmas.Pieces.{string_read}

string_tokens : (text : Text) → IsUtf8 text → tokens (quoted text) ≡ json_tokens (string text)
unfolding lex punctuate
string_tokens text utf8 =
    ap tokens (sym (append-nil (quoted text)))
    ∙ ap (punctuate fresh) (string_read text (all_escaped text) [] (text_passes text utf8))

pub strings_read_back : StringsReadBack
strings_read_back text utf8 = record {
  utf8 = quoted_utf8 text utf8;
  means = means_of (quoted text) (string text) (string_tokens text utf8) (omega arith);
  distinct = tt;
}
