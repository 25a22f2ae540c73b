-- Which value a text is, by the definition of JSON of the toolchain's `json`.
use Rattle.std.specs.Prelude.{◌≡◌, Some, IsUtf8}
use Rattle.json.specs.Json.{Json, string, document}
use Rattle.json.specs.Strict.{HasUniqueKeys}
use Rattle.timefd_parse.specs.Tree.{Text}
use Rattle.timefd_lint_drawing.specs.Json.{quoted}

-- The text is UTF-8, and JSON that means this value. No object in it has a key twice.
pub record IsJson (text : Text) (value : Json) : Type 0 where
  pub utf8 : IsUtf8 text
  pub means : document text ≡ Some value
  pub distinct : HasUniqueKeys value

-- A text in quotes is a JSON string that reads back as the text.
abbrev pub StringsReadBack : Type 0
StringsReadBack = (text : Text) → IsUtf8 text → IsJson (quoted text) (string text)
