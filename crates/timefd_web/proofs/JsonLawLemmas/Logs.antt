-- A SARIF log is JSON.
use Rattle.std.proofs.Common.{◌≡◌, List, [], ◌∷◌, ◌++◌, codes, drop, flat_map, map, refl, ap, ◌∙◌, subst, arith, append_assoc}
use Rattle.json.specs.Text.{content}
use Rattle.json.specs.Token.{Token, begin_object, end_object, begin_array, end_array, string}
use Rattle.json.specs.Json.{Json}
use Rattle.json.specs.Lex.{Lexeme, token, comma, colon, lex, punctuate, fresh, after_value}
use Rattle.json.specs.Strict.{HasUniqueKeys}
use Rattle.json.specs.Tree.{json_tokens, items_tokens}
use Rattle.json.specs.Value.{items_of}
use Rattle.json.proofs.Printed.Utf8.{IsUtf8-are_ascii}
use Rattle.timefd_parse.specs.Tree.{Text}
use Rattle.timefd_web.specs.JsonLaws.Logs.{Rule, rule, rule_text, rule_value, IsProperRule, All, log, log_value, program, LogsAreJson}
use Rattle.timefd_web.specs.JsonLaws.Results.{Result, fault, note, result_text, result_value, IsProper}
use Rattle.timefd_web.proofs.JsonLawLemmas.Distinct.{distinct_keys, unique_keys}
use Rattle.timefd_web.proofs.JsonLawLemmas.Fields.{text_lexed, strings, then}
use Rattle.timefd_web.proofs.JsonLawLemmas.Lists.{AreMembers, no_members, more_members}
use Rattle.timefd_web.proofs.JsonLawLemmas.Means.{means_of, tokens_of}
use Rattle.timefd_web.proofs.JsonLawLemmas.Pieces.{Lexes, Opens}
use Rattle.timefd_web.proofs.JsonLawLemmas.Results.{IsNext, is_next}

abbrev id_lexemes : List Lexeme
id_lexemes = comma ∷ token begin_object ∷ token (string (codes "id")) ∷ colon ∷ []

id_front : Opens (codes ",{\"id\":") id_lexemes
unfolding lex content
id_front = record { utf8 = IsUtf8-are_ascii _ refl; ends = λ rest. refl; read = λ rest. refl }

abbrev level_lexemes : List Lexeme
level_lexemes = comma ∷ token (string (codes "defaultConfiguration")) ∷ colon ∷ token begin_object ∷ token (string (codes "level")) ∷ colon ∷ []

level_front : Opens (codes ",\"defaultConfiguration\":{\"level\":") level_lexemes
unfolding lex content
level_front = record { utf8 = IsUtf8-are_ascii _ refl; ends = λ rest. refl; read = λ rest. refl }

abbrev summary_lexemes : List Lexeme
summary_lexemes = token end_object ∷ comma ∷ token (string (codes "shortDescription")) ∷ colon ∷ token begin_object ∷ token (string (codes "text")) ∷ colon ∷ []

summary_front : Opens (codes "},\"shortDescription\":{\"text\":") summary_lexemes
unfolding lex content
summary_front = record { utf8 = IsUtf8-are_ascii _ refl; ends = λ rest. refl; read = λ rest. refl }

abbrev help_lexemes : List Lexeme
help_lexemes = token end_object ∷ comma ∷ token (string (codes "help")) ∷ colon ∷ token begin_object ∷ token (string (codes "text")) ∷ colon ∷ []

help_front : Opens (codes "},\"help\":{\"text\":") help_lexemes
unfolding lex content
help_front = record { utf8 = IsUtf8-are_ascii _ refl; ends = λ rest. refl; read = λ rest. refl }

abbrev rule_end_lexemes : List Lexeme
rule_end_lexemes = token end_object ∷ token end_object ∷ []

rule_end_piece : Lexes (codes "}}\n") rule_end_lexemes
unfolding lex content
rule_end_piece = record { utf8 = IsUtf8-are_ascii _ refl; ends = λ rest h. refl; read = λ rest h. refl }

abbrev program_lexemes : List Lexeme
program_lexemes = token begin_object ∷ token (string (codes "$schema")) ∷ colon ∷ token (string (codes "https://json.schemastore.org/sarif-2.1.0.json")) ∷ comma ∷ token (string (codes "version")) ∷ colon ∷ token (string (codes "2.1.0")) ∷ comma ∷ token (string (codes "runs")) ∷ colon ∷ token begin_array ∷ token begin_object ∷ token (string (codes "columnKind")) ∷ colon ∷ token (string (codes "unicodeCodePoints")) ∷ comma ∷ token (string (codes "tool")) ∷ colon ∷ token begin_object ∷ token (string (codes "driver")) ∷ colon ∷ token begin_object ∷ token (string (codes "name")) ∷ colon ∷ token (string (codes "timefd_lint")) ∷ comma ∷ token (string (codes "version")) ∷ colon ∷ token (string (codes "0.2.0")) ∷ comma ∷ token (string (codes "rules")) ∷ colon ∷ token begin_array ∷ []

program_piece : Lexes program program_lexemes
unfolding lex content
program_piece = record { utf8 = IsUtf8-are_ascii _ refl; ends = λ rest h. refl; read = λ rest h. refl }

abbrev between_lexemes : List Lexeme
between_lexemes = token end_array ∷ token end_object ∷ token end_object ∷ comma ∷ token (string (codes "results")) ∷ colon ∷ token begin_array ∷ []

between_piece : Lexes (codes "]}},\"results\":[\n") between_lexemes
unfolding lex content
between_piece = record { utf8 = IsUtf8-are_ascii _ refl; ends = λ rest h. refl; read = λ rest h. refl }

abbrev log_end_lexemes : List Lexeme
log_end_lexemes = token end_array ∷ token end_object ∷ token end_array ∷ token end_object ∷ []

log_end_piece : Lexes (codes "]}]}\n") log_end_lexemes
unfolding lex content
log_end_piece = record { utf8 = IsUtf8-are_ascii _ refl; ends = λ rest h. refl; read = λ rest h. refl }

abbrev rule_lexemes : Rule → List Lexeme
rule_lexemes (rule name level summary explanation) =
    ((id_lexemes ++ strings name) ++ (level_lexemes ++ strings level))
    ++ ((summary_lexemes ++ strings summary) ++ ((help_lexemes ++ strings explanation) ++ rule_end_lexemes))

rule_lexed : (r : Rule) → IsProperRule r → Lexes (rule_text r) (rule_lexemes r)
rule_lexed (rule name level summary explanation) (n, l, s, e) =
    then (then (text_lexed _ name _ id_front n) (text_lexed _ level _ level_front l))
    (then (text_lexed _ summary _ summary_front s) (then (text_lexed _ explanation _ help_front e) rule_end_piece))

rule_next : (r : Rule) → IsProperRule r → IsNext (drop 1 (rule_text r)) (rule_value r)
unfolding punctuate
rule_next (rule name level summary explanation) proper = record {
  ls = drop 1 (rule_lexemes (rule name level summary explanation));
  lexed = rule_lexed (rule name level summary explanation) proper;
  open_end = λ rest. refl;
  first = λ more. refl;
  next = λ more. refl;
  shallow = omega arith;
  distinct = unique_keys (rule_value (rule name level summary explanation)) refl;
}

rule_comma : (r : Rule) → 44 ∷ drop 1 (rule_text r) ≡ rule_text r
rule_comma (rule name level summary explanation) = refl

result_comma : (r : Result) → 44 ∷ drop 1 (result_text r) ≡ result_text r
result_comma (fault further code file line column end_line end_column message help replacement level) = refl
result_comma (note code file line column message level) = refl

rules_of : (rs : List Rule) → All IsProperRule rs → AreMembers (flat_map rule_text rs) (map rule_value rs)
rules_of [] proper = no_members
rules_of (r ∷ rs) proper =
    subst (λ t. AreMembers (t ++ flat_map rule_text rs) (map rule_value (r ∷ rs))) (rule_comma r)
    (more_members (drop 1 (rule_text r)) (flat_map rule_text rs) (rule_value r) (map rule_value rs)
    (rule_next r proper.0) (rules_of rs proper.1))

results_of : (rs : List Result) → All IsProper rs → AreMembers (flat_map result_text rs) (map result_value rs)
results_of [] proper = no_members
results_of (r ∷ rs) proper =
    subst (λ t. AreMembers (t ++ flat_map result_text rs) (map result_value (r ∷ rs))) (result_comma r)
    (more_members (drop 1 (result_text r)) (flat_map result_text rs) (result_value r) (map result_value rs)
    (is_next r proper.0) (results_of rs proper.1))

arranged : (x y : List Token) (a b k l d e f : Token)
    → x ++ (a ∷ b ∷ k ∷ l ∷ (y ++ (d ∷ e ∷ f ∷ [])))
    ≡ ((((x ++ a ∷ []) ++ b ∷ []) ++ (k ∷ l ∷ (y ++ d ∷ []))) ++ e ∷ []) ++ f ∷ []
arranged x y a b k l d e f = simp append_assoc

module _ (rules results : Text) (rs js : List Json) (p : AreMembers rules rs) (q : AreMembers results js) where
  abbrev log_lexemes : List Lexeme
  log_lexemes = (program_lexemes ++ p.first_ls ++ between_lexemes) ++ q.first_ls ++ log_end_lexemes

  log_lexed : Lexes (log rules results) log_lexemes
  log_lexed = then (then (then (then program_piece p.first_lexed) between_piece) q.first_lexed) log_end_piece

  -- The lexemes after the rules begin with the end of their list.
  after_rules : List Lexeme
  after_rules = drop 1 between_lexemes ++ (q.first_ls ++ (log_end_lexemes ++ []))

  apart : (((p.first_ls ++ between_lexemes) ++ q.first_ls) ++ log_end_lexemes) ++ []
      ≡ p.first_ls ++ (between_lexemes ++ (q.first_ls ++ (log_end_lexemes ++ [])))
  apart =
      append_assoc ((p.first_ls ++ between_lexemes) ++ q.first_ls) log_end_lexemes []
      ∙ append_assoc (p.first_ls ++ between_lexemes) q.first_ls (log_end_lexemes ++ [])
      ∙ append_assoc p.first_ls between_lexemes (q.first_ls ++ (log_end_lexemes ++ []))

  abbrev log_front : List Token
  log_front =
      begin_object ∷ Token.key (codes "$schema") ∷ string (codes "https://json.schemastore.org/sarif-2.1.0.json")
      ∷ Token.key (codes "version") ∷ string (codes "2.1.0") ∷ Token.key (codes "runs") ∷ begin_array
      ∷ begin_object ∷ Token.key (codes "columnKind") ∷ string (codes "unicodeCodePoints") ∷ Token.key (codes "tool")
      ∷ begin_object ∷ Token.key (codes "driver") ∷ begin_object ∷ Token.key (codes "name") ∷ string (codes "timefd_lint")
      ∷ Token.key (codes "version") ∷ string (codes "0.2.0") ∷ Token.key (codes "rules") ∷ begin_array ∷ []

  abbrev log_middle : List Token
  log_middle = end_object ∷ end_object ∷ Token.key (codes "results") ∷ begin_array ∷ []

  abbrev log_back : List Token
  log_back = end_object ∷ end_array ∷ end_object ∷ []

  front_tokens : punctuate fresh (log_lexemes ++ [])
      ≡ log_front ++ punctuate fresh ((((p.first_ls ++ between_lexemes) ++ q.first_ls) ++ log_end_lexemes) ++ [])
  unfolding punctuate
  front_tokens = refl

  middle_tokens : punctuate after_value (drop 1 between_lexemes ++ (q.first_ls ++ (log_end_lexemes ++ [])))
      ≡ log_middle ++ punctuate fresh (q.first_ls ++ (log_end_lexemes ++ []))
  unfolding punctuate
  middle_tokens = refl

  back_tokens : punctuate after_value (drop 1 log_end_lexemes ++ []) ≡ log_back
  unfolding punctuate
  back_tokens = refl

  -- The tokens of a log, with those of each list apart.
  value_tokens : log_front ++ (items_tokens (items_of rs) ++ (log_middle ++ (items_tokens (items_of js) ++ log_back)))
      ≡ json_tokens (log_value rs js)
  value_tokens =
      ap (λ t. log_front ++ t)
      (arranged (items_tokens (items_of rs)) (items_tokens (items_of js)) end_object end_object
      (Token.key (codes "results")) begin_array end_object end_array end_object)

  log_tokens : punctuate fresh (log_lexemes ++ []) ≡ json_tokens (log_value rs js)
  log_tokens =
      front_tokens
      ∙ ap (λ t. log_front ++ t) (ap (punctuate fresh) apart
      ∙ p.first (drop 1 between_lexemes ++ (q.first_ls ++ (log_end_lexemes ++ [])))
      ∙ ap (λ t. items_tokens (items_of rs) ++ t) (middle_tokens
      ∙ ap (λ t. log_middle ++ t) (q.first (drop 1 log_end_lexemes ++ [])
      ∙ ap (λ t. items_tokens (items_of js) ++ t) back_tokens)))
      ∙ value_tokens

  log_distinct : HasUniqueKeys (log_value rs js)
  log_distinct = (
    distinct_keys (codes "$schema" ∷ codes "version" ∷ codes "runs" ∷ []) refl,
    (
      tt,
      (
        tt,
        (
          (
            (
              distinct_keys (codes "columnKind" ∷ codes "tool" ∷ codes "results" ∷ []) refl,
              (
                tt,
                (
                  (
                    distinct_keys (codes "driver" ∷ []) refl,
                    (
                      (
                        distinct_keys (codes "name" ∷ codes "version" ∷ codes "rules" ∷ []) refl,
                        (tt, (tt, (p.distinct, tt))),
                      ),
                      tt,
                    ),
                  ),
                  (q.distinct, tt),
                ),
              ),
            ),
            tt,
          ),
          tt,
        ),
      ),
    ),
  )

pub logs_are_json : LogsAreJson
logs_are_json rules results rules_proper results_proper =
    let p = rules_of rules rules_proper in
    let q = results_of results results_proper in
    let lexed = log_lexed _ _ _ _ p q in
    record {
      utf8 = lexed.utf8;
      means = means_of _ _ (tokens_of _ _ lexed ∙ log_tokens _ _ _ _ p q) (omega (arith, p.shallow, q.shallow));
      distinct = log_distinct _ _ _ _ p q;
    }
