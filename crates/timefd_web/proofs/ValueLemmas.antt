-- The objects are JSON.
use Rattle.std.proofs.Common.{◌≡◌, ℕ, true, false, List, [], ◌∷◌, ◌++◌, codes, decimal, map, refl, ap, ◌∙◌, arith, append_assoc, string_bytes, IsUtf8}
use Rattle.json.specs.Token.{Token, begin_object, end_object, begin_array, string, number, boolean}
use Rattle.json.specs.Json.{Json}
use Rattle.json.specs.Lex.{Lexeme, token, punctuate, fresh}
use Rattle.json.specs.Tree.{json_tokens, items_tokens}
use Rattle.json.specs.Value.{items_of}
use Rattle.timefd_parse.specs.Tree.{Text}
use Rattle.timefd_lang_dialect.specs.Reasons as reasons
use Rattle.timefd_lang_dialect.specs.TrapWords as words
use Rattle.timefd_lang_dialect.specs.declared.error.RefusedPart.{RefusedPart}
use Rattle.timefd_lang_dialect.specs.declared.limits.Limits.{Limits}
use Rattle.timefd_lang_dialect.specs.declared.reading.Converted.{Converted}
use Rattle.timefd_lang_dialect.specs.declared.reason.Reason.{Reason}
use Rattle.timefd_lang_dialect.specs.declared.trapping.Found.{Found}
use Rattle.timefd_description.specs.declared.guessing.guessing.Guess.{Guess}
use Rattle.timefd_web.specs.JsonLaws.Logs.{All}
use Rattle.timefd_web.specs.JsonLaws.Meaning.{IsJson}
use Rattle.timefd_web.specs.JsonLaws.Objects.{IsNumber64}
use Rattle.timefd_web.proofs.JsonLawLemmas.Distinct.{distinct_keys, unique_keys}
use Rattle.timefd_web.proofs.JsonLawLemmas.Fields.{text_lexed, number_lexed, strings, numbers, then}
use Rattle.timefd_web.proofs.JsonLawLemmas.Fronts as common
use Rattle.timefd_web.proofs.JsonLawLemmas.Fronts.{first_key, next_key}
use Rattle.timefd_web.proofs.JsonLawLemmas.Means.{means_of, tokens_of}
use Rattle.timefd_web.proofs.JsonLawLemmas.Pieces.{Lexes, closed, no_piece}
use Rattle.timefd_web.proofs.JsonLawLemmas.Results.{IsNext}
use Rattle.timefd_web.specs.Conversions.{converted_object, format_object, lacking_object, limit_fields, merged_object, reason_fields, refused_object, trap_object}
use Rattle.timefd_web.specs.Guesses.{guess_object, guesses_object}
use Rattle.timefd_web.specs.Records.{listed}
use Rattle.timefd_web.specs.Values.{IsProperGuess, IsProperRefusal, IsProperText, IsProperTrap, ObjectsAreJson, converted_value, format_value, guess_value, guesses_value, lacking_value, merged_value, refused_value, trap_value}
use Rattle.timefd_web.proofs.ArrayLemmas.{IsArray, array_of}
use Rattle.timefd_web.proofs.ValueFronts as front
use Rattle.timefd_web.proofs.ValueFronts.{converted_keys, minutes_key}

abbrev limit_lexemes : Limits → List Lexeme
limit_lexemes l =
    (next_key (codes "first_year") ++ numbers l.first_year)
    ++ (minutes_key ++ token (boolean l.whole_minutes) ∷ [])

limits_lexed : (l : Limits) → IsNumber64 l.first_year → Lexes (limit_fields l) (limit_lexemes l)
limits_lexed l small = then (number_lexed _ l.first_year _ front.year_front small) (front.minutes_lexed l.whole_minutes)

abbrev reason_lexemes : Reason → List Lexeme
reason_lexemes reason =
    (converted_keys false (codes "reason") ++ strings (reasons.name reason))
    ++ (next_key (codes "message") ++ strings (reasons.sentence reason))
    ++ (next_key (codes "help") ++ strings (reasons.cure reason))

reason_lexed : (reason : Reason) → IsUtf8 (reasons.name reason) → IsUtf8 (reasons.sentence reason)
    → IsUtf8 (reasons.cure reason) → Lexes (reason_fields reason) (reason_lexemes reason)
reason_lexed reason n s c =
    then (then (text_lexed _ (reasons.name reason) _ front.reason_front n)
    (text_lexed _ (reasons.sentence reason) _ common.message_front s))
    (text_lexed _ (reasons.cure reason) _ common.help_front c)

-- A trap, and a guess, after a comma.

abbrev trap_lexemes : Found → List Lexeme
trap_lexemes f =
    ((((first_key (codes "trap") ++ strings (words.name f.trap))
    ++ (next_key (codes "message") ++ strings (words.sentence f.trap)))
    ++ (next_key (codes "help") ++ strings (words.cure f.trap)))
    ++ (next_key (codes "start") ++ numbers f.start))
    ++ (next_key (codes "end") ++ numbers f.end) ++ token end_object ∷ []

trap_next : (f : Found) → IsProperTrap f → IsNext (trap_object f) (trap_value f)
unfolding punctuate
trap_next f (n, s, c, a, b) = record {
  ls = trap_lexemes f;
  lexed =
      then (then (then (then (then (text_lexed _ (words.name f.trap) _ front.trap_front n)
      (text_lexed _ (words.sentence f.trap) _ common.message_front s))
      (text_lexed _ (words.cure f.trap) _ common.help_front c))
      (number_lexed _ f.start _ common.start_front a)) (number_lexed _ f.end _ common.end_front b))
      front.closing;
  open_end = λ rest. refl;
  first = λ more. refl;
  next = λ more. refl;
  shallow = omega arith;
  distinct = unique_keys (trap_value f) refl;
}

abbrev guess_lexemes : Guess → List Lexeme
guess_lexemes g =
    (first_key (codes "description") ++ strings g.description.now)
    ++ (next_key (codes "undecided") ++ numbers g.undecided) ++ token end_object ∷ []

guess_next : (g : Guess) → IsProperGuess g → IsNext (guess_object g) (guess_value g)
unfolding punctuate
guess_next g (d, u) = record {
  ls = guess_lexemes g;
  lexed =
      then (then (text_lexed _ g.description.now _ front.description_front d)
      (number_lexed _ g.undecided _ front.undecided_front u)) front.closing;
  open_end = λ rest. refl;
  first = λ more. refl;
  next = λ more. refl;
  shallow = omega arith;
  distinct = unique_keys (guess_value g) refl;
}

-- An object whose last value is an array.

abbrev ends : List Lexeme
ends = token end_object ∷ []

module _ (text : Text) (js : List Json) (a : IsArray text js) where
  last_tokens : punctuate fresh ((a.ls ++ ends) ++ []) ≡ items_tokens (items_of js) ++ end_object ∷ []
  unfolding punctuate
  last_tokens = ap (punctuate fresh) (append_assoc a.ls ends []) ∙ a.tokens (ends ++ [])

  abbrev converted_lexemes : Converted → List Lexeme
  converted_lexemes c =
      [] ++ (converted_keys true (codes "version_3") ++ strings (string_bytes c.text))
      ++ limit_lexemes c.limits ++ (next_key (codes "traps") ++ token begin_array ∷ a.ls) ++ ends

  abbrev converted_front : Converted → List Token
  converted_front c =
      begin_object ∷ Token.key (codes "converted") ∷ boolean true ∷ Token.key (codes "version_3")
      ∷ string (string_bytes c.text) ∷ Token.key (codes "first_year") ∷ number (decimal c.limits.first_year)
      ∷ Token.key (codes "whole_minutes") ∷ boolean c.limits.whole_minutes ∷ Token.key (codes "traps")
      ∷ begin_array ∷ []

  converted_tokens : (c : Converted)
      → punctuate fresh (converted_lexemes c ++ []) ≡ json_tokens (converted_value c js)
  unfolding punctuate
  converted_tokens c = ap (λ t. converted_front c ++ t) last_tokens

  abbrev refused_lexemes : RefusedPart → List Lexeme
  refused_lexemes r =
      [] ++ reason_lexemes r.reason ++ (next_key (codes "start") ++ numbers r.index)
      ++ (next_key (codes "traps") ++ token begin_array ∷ a.ls) ++ ends

  abbrev refused_front : RefusedPart → List Token
  refused_front r =
      begin_object ∷ Token.key (codes "converted") ∷ boolean false ∷ Token.key (codes "reason")
      ∷ string (reasons.name r.reason) ∷ Token.key (codes "message") ∷ string (reasons.sentence r.reason)
      ∷ Token.key (codes "help") ∷ string (reasons.cure r.reason) ∷ Token.key (codes "start")
      ∷ number (decimal r.index) ∷ Token.key (codes "traps") ∷ begin_array ∷ []

  refused_tokens : (r : RefusedPart)
      → punctuate fresh (refused_lexemes r ++ []) ≡ json_tokens (refused_value r js)
  unfolding punctuate
  refused_tokens r = ap (λ t. refused_front r ++ t) last_tokens

  abbrev counted : ℕ → List Lexeme
  counted count = next_key (codes "texts") ++ numbers count

  abbrev guesses_lexemes : ℕ → List Lexeme
  guesses_lexemes count =
      [] ++ (first_key (codes "guesses") ++ token begin_array ∷ a.ls) ++ counted count ++ ends

  guesses_tokens : (count : ℕ)
      → punctuate fresh (guesses_lexemes count ++ []) ≡ json_tokens (guesses_value js count)
  unfolding punctuate
  guesses_tokens count =
      ap (λ t. (begin_object ∷ Token.key (codes "guesses") ∷ begin_array ∷ []) ++ t)
      (ap (punctuate fresh) (append_assoc (a.ls ++ counted count) ends []
      ∙ append_assoc a.ls (counted count) (ends ++ [])) ∙ a.tokens (counted count ++ (ends ++ [])))

abbrev traps : List Found → List Json
traps found = map trap_value found

converted_json : (c : Converted) (found : List Found) → IsProperText c → All IsProperTrap found
    → IsJson (converted_object c found) (converted_value c (traps found))
converted_json c found (u, y) are =
    let a = array_of trap_object trap_value IsProperTrap trap_next found are in
    let lexed : Lexes (converted_object c found) (converted_lexemes (listed trap_object found) (traps found) a c) =
    then (then (then (then no_piece (text_lexed _ (string_bytes c.text) _ front.version_front u))
    (limits_lexed c.limits y)) (then (closed _ _ front.traps_front) a.lexed)) front.closing in
    record {
      utf8 = lexed.utf8;
      means = means_of _ _ (tokens_of _ _ lexed ∙ converted_tokens _ _ a c) (omega (arith, a.shallow));
      distinct = (
        distinct_keys (codes "converted" ∷ codes "version_3" ∷ codes "first_year" ∷ codes "whole_minutes" ∷ codes "traps" ∷ []) refl,
        (tt, (tt, (tt, (tt, (a.distinct, tt))))),
      );
    }

refused_json : (r : RefusedPart) (found : List Found) → IsProperRefusal r → All IsProperTrap found
    → IsJson (refused_object r found) (refused_value r (traps found))
refused_json r found (n, s, c, i) are =
    let a = array_of trap_object trap_value IsProperTrap trap_next found are in
    let lexed : Lexes (refused_object r found) (refused_lexemes (listed trap_object found) (traps found) a r) =
    then (then (then (then no_piece (reason_lexed r.reason n s c))
    (number_lexed _ r.index _ common.start_front i))
    (then (closed _ _ front.traps_front) a.lexed)) front.closing in
    record {
      utf8 = lexed.utf8;
      means = means_of _ _ (tokens_of _ _ lexed ∙ refused_tokens _ _ a r) (omega (arith, a.shallow));
      distinct = (
        distinct_keys (codes "converted" ∷ codes "reason" ∷ codes "message" ∷ codes "help" ∷ codes "start" ∷ codes "traps" ∷ []) refl,
        (tt, (tt, (tt, (tt, (tt, (a.distinct, tt)))))),
      );
    }

guesses_json : (found : List Guess) (count : ℕ) → All IsProperGuess found → IsNumber64 count
    → IsJson (guesses_object found count) (guesses_value (map guess_value found) count)
guesses_json found count are small =
    let a = array_of guess_object guess_value IsProperGuess guess_next found are in
    let lexed : Lexes (guesses_object found count) (guesses_lexemes (listed guess_object found) (map guess_value found) a count) =
    then (then (then no_piece (then (closed _ _ front.guesses_front) a.lexed))
    (number_lexed _ count _ front.texts_front small)) front.closing in
    record {
      utf8 = lexed.utf8;
      means = means_of _ _ (tokens_of _ _ lexed ∙ guesses_tokens _ _ a count) (omega (arith, a.shallow));
      distinct = (distinct_keys (codes "guesses" ∷ codes "texts" ∷ []) refl, (a.distinct, (tt, tt)));
    }

format_json : (c : Converted) → IsProperText c → IsJson (format_object c) (format_value c)
unfolding punctuate
format_json c (u, y) =
    let lexed = then (then (then no_piece (text_lexed _ (string_bytes c.text) _ front.format_front u))
    (limits_lexed c.limits y)) front.closing in
    record {
      utf8 = lexed.utf8;
      means = means_of _ (format_value c) (tokens_of _ _ lexed ∙ refl) (omega arith);
      distinct = unique_keys (format_value c) refl;
    }

lacking_json : (index : ℕ) → IsNumber64 index → IsJson (lacking_object index) (lacking_value index)
unfolding punctuate
lacking_json index small =
    let lexed = then (then (then no_piece (text_lexed _ _ _ front.lack_front front.lack_utf8))
    (number_lexed _ index _ common.start_front small)) front.closing in
    record {
      utf8 = lexed.utf8;
      means = means_of _ (lacking_value index) (tokens_of _ _ lexed ∙ refl) (omega arith);
      distinct = unique_keys (lacking_value index) refl;
    }

merged_json : IsJson merged_object merged_value
unfolding punctuate
merged_json =
    let lexed = then (then no_piece (text_lexed _ _ _ front.lack_front front.merged_utf8)) front.closing in
    record {
      utf8 = lexed.utf8;
      means = means_of _ merged_value (tokens_of _ _ lexed ∙ refl) (omega arith);
      distinct = unique_keys merged_value refl;
    }

pub objects_are_json : ObjectsAreJson
objects_are_json = record {
  converted = converted_json;
  refused = refused_json;
  format = format_json;
  lacking = lacking_json;
  merged = merged_json;
  guesses = guesses_json;
}
