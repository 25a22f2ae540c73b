-- The value of a SARIF log.
use Rattle.std.specs.Prelude.{◌≡◌, List, [], ◌∷◌, ◌++◌, codes, drop, flat_map, map, IsUtf8, Some, ⊤}
use Rattle.json.specs.Find.{get}
use Rattle.json.specs.Json.{Json, string, array, object, Items, no_items, item, no_members, member}
use Rattle.json.specs.Value.{items_of}
use Rattle.timefd_parse.specs.Tree.{Text}
use Rattle.timefd_lint_drawing.specs.Json.{quoted}
use Rattle.timefd_web.specs.JsonLaws.Meaning.{IsJson}
use Rattle.timefd_web.specs.JsonLaws.Objects.{text_member}
use Rattle.timefd_web.specs.JsonLaws.Results.{Result, result_text, result_value, IsProper, only, words}

-- What a rule holds: its name, how bad a result of it is, what it is in a few words, and what it means.
pub data Rule : Type 0 where
  rule : Text → Text → Text → Text → Rule

-- The rule after a comma.
abbrev pub rule_text : Rule → Text
rule_text (rule name level summary explanation) =
    ((codes ",{\"id\":" ++ quoted name) ++ (codes ",\"defaultConfiguration\":{\"level\":" ++ quoted level))
    ++ ((codes "},\"shortDescription\":{\"text\":" ++ quoted summary)
    ++ ((codes "},\"help\":{\"text\":" ++ quoted explanation) ++ codes "}}\n"))

abbrev pub rule_value : Rule → Json
rule_value (rule name level summary explanation) =
    object (text_member (codes "id") name
    (member (codes "defaultConfiguration") (object (text_member (codes "level") level no_members))
    (member (codes "shortDescription") (words summary) (member (codes "help") (words explanation) no_members))))

abbrev pub IsProperRule : Rule → Type 0
IsProperRule (rule name level summary explanation) =
    IsUtf8 name × IsUtf8 level × IsUtf8 summary × IsUtf8 explanation

-- A comma precedes each member of a list. The first one's is left out in a log.
abbrev pub joined : Text → Text → Text → Text
joined front members end = front ++ drop 1 members ++ end

-- The part before the rules: it names the program.
abbrev pub program : Text
program = codes "{\"$schema\":\"https://json.schemastore.org/sarif-2.1.0.json\",\"version\":\"2.1.0\",\"runs\":[\n{\"columnKind\":\"unicodeCodePoints\",\"tool\":{\"driver\":{\"name\":\"timefd_lint\",\"version\":\"0.2.0\",\"rules\":[\n"

-- The log with these rules and these results, as `timefd_lint` writes it.
abbrev pub log : Text → Text → Text
log rules results = joined (joined program rules (codes "]}},\"results\":[\n")) results (codes "]}]}\n")

abbrev pub driver : List Json → Json
driver rules =
    object (text_member (codes "name") (codes "timefd_lint") (text_member (codes "version") (codes "0.2.0")
    (member (codes "rules") (array (items_of rules)) no_members)))

abbrev pub run : List Json → List Json → Json
run rules results =
    object (text_member (codes "columnKind") (codes "unicodeCodePoints")
    (member (codes "tool") (object (member (codes "driver") (driver rules) no_members))
    (member (codes "results") (array (items_of results)) no_members)))

abbrev pub log_value : List Json → List Json → Json
log_value rules results =
    object (text_member (codes "$schema") (codes "https://json.schemastore.org/sarif-2.1.0.json")
    (text_member (codes "version") (codes "2.1.0") (member (codes "runs") (only (run rules results)) no_members)))

abbrev pub All : {A : Type 0} → (A → Type 0) → List A → Type 0
All P [] = ⊤
All P (x ∷ xs) = P x × All P xs

-- A log of any rules and any results is JSON, and has exactly these keys and values.
abbrev pub LogsAreJson : Type 0
LogsAreJson =
    (rules : List Rule) (results : List Result) → All IsProperRule rules → All IsProper results
    → IsJson (log (flat_map rule_text rules) (flat_map result_text results))
    (log_value (map rule_value rules) (map result_value results))

-- ---- what SARIF requires

-- The value is an object with this key, and the key's value is so.
abbrev pub Has : Text → (Json → Type 0) → Json → Type 0
Has key P j = (value : Json) × (get key j ≡ Some value) × P value

abbrev pub IsText : Json → Type 0
IsText j = (text : Text) × (j ≡ string text)

abbrev pub AllItems : (Json → Type 0) → Items → Type 0
AllItems P no_items = ⊤
AllItems P (item j js) = P j × AllItems P js

abbrev pub IsArrayOf : (Json → Type 0) → Json → Type 0
IsArrayOf P j = (js : Items) × (j ≡ array js) × AllItems P js

abbrev pub IsLocation : Json → Type 0
IsLocation = Has (codes "physicalLocation") (Has (codes "artifactLocation") (Has (codes "uri") IsText))

-- A result has a message with a text, a rule's name, and a list of locations.
pub record IsSarifResult (j : Json) : Type 0 where
  pub message : Has (codes "message") (Has (codes "text") IsText) j
  pub rule_id : Has (codes "ruleId") IsText j
  pub locations : Has (codes "locations") (IsArrayOf IsLocation) j

-- The driver has a name, and a list of rules, each with a name.
pub record IsDriver (j : Json) : Type 0 where
  pub name : Has (codes "name") IsText j
  pub rules : Has (codes "rules") (IsArrayOf (Has (codes "id") IsText)) j

pub record IsRun (j : Json) : Type 0 where
  pub tool : Has (codes "tool") (Has (codes "driver") IsDriver) j
  pub results : Has (codes "results") (IsArrayOf IsSarifResult) j

-- A log is of version 2.1.0, and has a list of runs.
pub record IsSarif (j : Json) : Type 0 where
  pub version : get (codes "version") j ≡ Some (string (codes "2.1.0"))
  pub runs : Has (codes "runs") (IsArrayOf IsRun) j

-- A log of any rules and any results has what SARIF requires.
abbrev pub LogsAreSarif : Type 0
LogsAreSarif =
    (rules : List Rule) (results : List Result) → IsSarif (log_value (map rule_value rules) (map result_value results))
