-- SARIF results are JSON.
use Rattle.std.proofs.Common.{◌≡◌, ℕ, ◌≤◌, Bool, true, false, List, [], ◌∷◌, ◌++◌, Option, Some, None, codes, decimal, drop, refl, sym, ap, ◌∙◌, subst, IsUtf8, arith, append_assoc, append-nil}
use Rattle.std.proofs.lemmas.Str.{encode_ascii, IsUtf8-past_char}
use Rattle.json.specs.Token.{string}
use Rattle.json.specs.Json.{Json}
use Rattle.json.specs.Word.{ends_word}
use Rattle.json.specs.Lex.{Lexeme, token, comma, lex, punctuate, fresh, after_value, after_comma}
use Rattle.json.specs.Strict.{HasUniqueKeys}
use Rattle.json.specs.Tree.{json_tokens, depth}
use Rattle.timefd_parse.specs.Tree.{Text}
use Rattle.timefd_lint_drawing.specs.Sarif as drawing
use Rattle.timefd_lint_drawing.specs.Json.{text_field}
use Rattle.timefd_lint_drawing.specs.Sarif.{uri}
use Rattle.timefd_web.specs.JsonLaws.Objects.{IsNumber64, IsWord}
use Rattle.timefd_web.specs.JsonLaws.Results.{Result, fault, note, result_text, result_value, IsProper, ResultsAreJson}
use Rattle.timefd_web.proofs.JsonLawLemmas.Distinct.{unique_keys}
use Rattle.timefd_web.proofs.JsonLawLemmas.Fields.{text_lexed, number_lexed, strings, numbers, then}
use Rattle.timefd_web.proofs.JsonLawLemmas.ResultFronts as front
use Rattle.timefd_web.proofs.JsonLawLemmas.Means.{means_of, tokens_of}
use Rattle.timefd_web.proofs.JsonLawLemmas.Pieces.{Lexes, Opens, closed, no_piece, string_after}
use Rattle.timefd_web.proofs.JsonLawLemmas.Uris.{uri_stays}
use Rattle.timefd_web.proofs.JsonLawLemmas.Encoded.{in_quotes}

-- A text that is a comma and a value, without the comma.
pub record IsNext (text : Text) (j : Json) : Type 0 where
  pub ls : List Lexeme
  pub lexed : Lexes (44 ∷ text) (comma ∷ ls)
  pub open_end : (rest : Text) → ends_word (text ++ rest) ≡ true
  pub first : (more : List Lexeme) → punctuate fresh (ls ++ more) ≡ json_tokens j ++ punctuate after_value more
  pub next : (more : List Lexeme) → punctuate after_comma (ls ++ more) ≡ json_tokens j ++ punctuate after_value more
  pub shallow : depth j ≤ 100
  pub distinct : HasUniqueKeys j

pub alone : (text : Text) (j : Json) (n : IsNext text j) → Lexes text n.ls
unfolding lex
alone text j n = record {
  utf8 = IsUtf8-past_char (44 ∷ text) text 44 n.lexed.utf8 (ap (λ t. t ++ text) (sym (encode_ascii 44 (omega arith))));
  ends = λ rest h. n.open_end rest;
  read = λ rest h. ap (drop 1) (n.lexed.read rest h);
}

moved : (a x w : Text) → (a ++ x) ++ 34 ∷ w ≡ (a ++ (x ++ 34 ∷ [])) ++ w
moved a x w =
    append_assoc a x (34 ∷ w) ∙ ap (λ t. a ++ t) (sym (append_assoc x (34 ∷ []) w))
    ∙ sym (append_assoc a (x ++ 34 ∷ []) w)

-- The quote after a path belongs to the next piece.
at_quote : (a x w : Text) (ls : List Lexeme) → Lexes ((a ++ (x ++ 34 ∷ [])) ++ w) ls → Lexes ((a ++ x) ++ 34 ∷ w) ls
at_quote a x w ls = subst (λ t. Lexes t ls) (sym (moved a x w))

uri_after : (front file : Text) (ls : List Lexeme) → Opens front ls → IsUtf8 file
    → Lexes (front ++ 34 ∷ (uri file ++ 34 ∷ [])) (ls ++ token (string (uri file)) ∷ [])
uri_after front file ls o utf8 =
    let stays = uri_stays file utf8 in
    closed _ _ (string_after front (uri file) (uri file) ls o (in_quotes (uri file) stays.utf8) stays.passes)

abbrev placed_lexemes : Text → Text → Text → List Lexeme
placed_lexemes code level message =
    [] ++ (front.rule_id_lexemes ++ strings code) ++ (front.level_lexemes ++ strings level)
    ++ (front.message_lexemes ++ strings message) ++ front.locations_lexemes

abbrev begun_lexemes : Text → Text → Text → Text → ℕ → ℕ → List Lexeme
begun_lexemes code level message file line column =
    placed_lexemes code level message ++ (front.uri_lexemes ++ strings (uri file))
    ++ (front.region_lexemes ++ numbers line) ++ (front.start_column_lexemes ++ numbers column)

abbrev placed_text : Text → Text → Text → Text
placed_text code level message =
    [] ++ text_field (codes ",{\"ruleId\":") code ++ text_field (codes ",\"level\":") level
    ++ text_field (codes ",\"message\":{\"text\":") message ++ codes "},\"locations\":[{\"physicalLocation\":"

placed : (code level message : Text) → IsUtf8 code → IsUtf8 level → IsUtf8 message
    → Lexes (placed_text code level message) (placed_lexemes code level message)
placed code level message c v m =
    then (then (then (then no_piece (text_lexed _ code _ front.rule_id_front c)) (text_lexed _ level _ front.level_front v))
    (text_lexed _ message _ front.message_front m)) front.locations_piece

begun : (code file : Text) (line column : ℕ) (message level : Text)
    → IsUtf8 code → IsUtf8 file → IsNumber64 line → IsNumber64 column → IsUtf8 message → IsUtf8 level
    → Lexes (drawing.begun code file line column message level) (begun_lexemes code level message file line column)
begun code file line column message level c f l k m v =
    then (at_quote (placed_text code level message) (codes "{\"artifactLocation\":{\"uri\":\"" ++ uri file)
    (codes "},\"region\":{\"startLine\":" ++ decimal line) _
    (then (then (placed code level message c v m) (uri_after _ file _ front.uri_front f))
    (number_lexed _ line _ front.region_front l)))
    (number_lexed _ column _ front.start_column_front k)

abbrev fix_lexemes : Text → ℕ → ℕ → ℕ → ℕ → Text → Text → List Lexeme
fix_lexemes file line column end_line end_column help word =
    [] ++ (front.fixes_lexemes ++ strings help) ++ (front.changes_lexemes ++ strings (uri file))
    ++ front.replacements_lexemes ++ (front.deleted_lexemes ++ numbers line)
    ++ (front.start_column_lexemes ++ numbers column) ++ (front.end_line_lexemes ++ numbers end_line)
    ++ (front.end_column_lexemes ++ numbers end_column) ++ (front.inserted_lexemes ++ strings word) ++ front.fixed_lexemes

fixed : (file : Text) (line column end_line end_column : ℕ) (help word : Text)
    → IsUtf8 file → IsNumber64 line → IsNumber64 column → IsNumber64 end_line → IsNumber64 end_column → IsUtf8 help → IsUtf8 word
    → Lexes (drawing.fix file line column end_line end_column help word)
    (fix_lexemes file line column end_line end_column help word)
fixed file line column end_line end_column help word f l k n e h w =
    then (then (then (then (then (then
    (at_quote ([] ++ text_field (codes ",\"fixes\":[{\"description\":{\"text\":") help)
    (codes "},\"artifactChanges\":[{\"artifactLocation\":{\"uri\":\"" ++ uri file) (codes "},\"replacements\":[") _
    (then (then (then no_piece (text_lexed _ help _ front.fixes_front h)) (uri_after _ file _ front.changes_front f))
    front.replacements_piece))
    (number_lexed _ line _ front.deleted_front l)) (number_lexed _ column _ front.start_column_front k))
    (number_lexed _ end_line _ front.end_line_front n)) (number_lexed _ end_column _ front.end_column_front e))
    (text_lexed _ word _ front.inserted_front w)) front.fixed_piece

abbrev fixes_lexemes : Text → ℕ → ℕ → ℕ → ℕ → Text → Option Text → List Lexeme
fixes_lexemes file line column end_line end_column help None = []
fixes_lexemes file line column end_line end_column help (Some word) = fix_lexemes file line column end_line end_column help word

fixes : (file : Text) (line column end_line end_column : ℕ) (help : Text) (o : Option Text)
    → IsUtf8 file → IsNumber64 line → IsNumber64 column → IsNumber64 end_line → IsNumber64 end_column → IsUtf8 help → IsWord o
    → Lexes (drawing.fixes file line column end_line end_column help o)
    (fixes_lexemes file line column end_line end_column help o)
fixes file line column end_line end_column help None f l k n e h w = no_piece
fixes file line column end_line end_column help (Some word) f l k n e h w =
    fixed file line column end_line end_column help word f l k n e h w

abbrev further_lexemes : Bool → List Lexeme
further_lexemes true = front.further_lexemes
further_lexemes false = []

further_lexed : (further : Bool) → Lexes (drawing.further_field further) (further_lexemes further)
further_lexed true = front.further_piece
further_lexed false = no_piece

abbrev fault_lexemes : Bool → Text → Text → ℕ → ℕ → ℕ → ℕ → Text → Text → Option Text → Text → List Lexeme
fault_lexemes further code file line column end_line end_column message help o level =
    begun_lexemes code level message file line column ++ (front.end_line_lexemes ++ numbers end_line)
    ++ (front.end_column_lexemes ++ numbers end_column) ++ front.located_lexemes
    ++ fixes_lexemes file line column end_line end_column help o ++ further_lexemes further ++ front.closing_lexemes

fault_lexed : (further : Bool) (code file : Text) (line column end_line end_column : ℕ) (message help : Text) (o : Option Text) (level : Text)
    → IsProper (fault further code file line column end_line end_column message help o level)
    → Lexes (drawing.result further code file line column end_line end_column message help o level)
    (fault_lexemes further code file line column end_line end_column message help o level)
fault_lexed further code file line column end_line end_column message help o level (c, f, l, k, n, e, m, h, w, v) =
    then (then (then (then (then (then
    (begun code file line column message level c f l k m v)
    (number_lexed _ end_line _ front.end_line_front n)) (number_lexed _ end_column _ front.end_column_front e))
    front.located_piece) (fixes file line column end_line end_column help o f l k n e h w)) (further_lexed further))
    front.closing_piece

fault_first : (further : Bool) (code file : Text) (line column end_line end_column : ℕ) (message help : Text) (o : Option Text) (level : Text)
    (more : List Lexeme)
    → punctuate fresh (drop 1 (fault_lexemes further code file line column end_line end_column message help o level) ++ more)
    ≡ json_tokens (result_value (fault further code file line column end_line end_column message help o level))
    ++ punctuate after_value more
unfolding punctuate
fault_first true code file line column end_line end_column message help None level more = refl
fault_first true code file line column end_line end_column message help (Some word) level more = refl
fault_first false code file line column end_line end_column message help None level more = refl
fault_first false code file line column end_line end_column message help (Some word) level more = refl

fault_next : (further : Bool) (code file : Text) (line column end_line end_column : ℕ) (message help : Text) (o : Option Text) (level : Text)
    (more : List Lexeme)
    → punctuate after_comma (drop 1 (fault_lexemes further code file line column end_line end_column message help o level) ++ more)
    ≡ json_tokens (result_value (fault further code file line column end_line end_column message help o level))
    ++ punctuate after_value more
unfolding punctuate
fault_next true code file line column end_line end_column message help None level more = refl
fault_next true code file line column end_line end_column message help (Some word) level more = refl
fault_next false code file line column end_line end_column message help None level more = refl
fault_next false code file line column end_line end_column message help (Some word) level more = refl

fault_shallow : (further : Bool) (code file : Text) (line column end_line end_column : ℕ) (message help : Text) (o : Option Text) (level : Text)
    → depth (result_value (fault further code file line column end_line end_column message help o level)) ≤ 100
fault_shallow true code file line column end_line end_column message help None level = omega arith
fault_shallow true code file line column end_line end_column message help (Some word) level = omega arith
fault_shallow false code file line column end_line end_column message help None level = omega arith
fault_shallow false code file line column end_line end_column message help (Some word) level = omega arith

fault_distinct : (further : Bool) (code file : Text) (line column end_line end_column : ℕ) (message help : Text) (o : Option Text) (level : Text)
    → HasUniqueKeys (result_value (fault further code file line column end_line end_column message help o level))
fault_distinct true code file line column end_line end_column message help None level =
    unique_keys (result_value (fault true code file line column end_line end_column message help None level)) refl
fault_distinct true code file line column end_line end_column message help (Some word) level =
    unique_keys (result_value (fault true code file line column end_line end_column message help (Some word) level)) refl
fault_distinct false code file line column end_line end_column message help None level =
    unique_keys (result_value (fault false code file line column end_line end_column message help None level)) refl
fault_distinct false code file line column end_line end_column message help (Some word) level =
    unique_keys (result_value (fault false code file line column end_line end_column message help (Some word) level)) refl

note_lexed : (code file : Text) (line column : ℕ) (message level : Text) → IsProper (note code file line column message level)
    → Lexes (drawing.note_result code file line column message level)
    (begun_lexemes code level message file line column ++ front.note_closing_lexemes)
note_lexed code file line column message level (c, f, l, k, m, v) =
    then (begun code file line column message level c f l k m v) front.note_closing_piece

-- Each result is a comma and a value.
pub is_next : (r : Result) → IsProper r → IsNext (drop 1 (result_text r)) (result_value r)
unfolding punctuate
is_next (fault further code file line column end_line end_column message help o level) proper = record {
  ls = drop 1 (fault_lexemes further code file line column end_line end_column message help o level);
  lexed = fault_lexed further code file line column end_line end_column message help o level proper;
  open_end = λ rest. refl;
  first = fault_first further code file line column end_line end_column message help o level;
  next = fault_next further code file line column end_line end_column message help o level;
  shallow = fault_shallow further code file line column end_line end_column message help o level;
  distinct = fault_distinct further code file line column end_line end_column message help o level;
}
is_next (note code file line column message level) proper = record {
  ls = drop 1 (begun_lexemes code level message file line column ++ front.note_closing_lexemes);
  lexed = note_lexed code file line column message level proper;
  open_end = λ rest. refl;
  first = λ more. refl;
  next = λ more. refl;
  shallow = omega arith;
  distinct = unique_keys (result_value (note code file line column message level)) refl;
}

pub results_are_json : ResultsAreJson
unfolding punctuate
results_are_json r proper =
    let n = is_next r proper in
    let lexed = alone (drop 1 (result_text r)) (result_value r) n in
    record {
      utf8 = lexed.utf8;
      means = means_of _ (result_value r)
          (tokens_of _ _ lexed ∙ n.first [] ∙ append-nil (json_tokens (result_value r))) (omega (arith, n.shallow));
      distinct = n.distinct;
    }
