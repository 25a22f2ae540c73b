-- The values of SARIF results.
use Rattle.std.specs.Prelude.{ℕ, Bool, true, false, Option, None, Some, codes, IsUtf8, drop}
use Rattle.json.specs.Json.{Json, boolean, array, object, no_items, item, Members, no_members, member}
use Rattle.timefd_parse.specs.Tree.{Text}
use Rattle.timefd_lint_drawing.specs.Sarif as drawing
use Rattle.timefd_lint_drawing.specs.Sarif.{uri}
use Rattle.timefd_web.specs.JsonLaws.Meaning.{IsJson}
use Rattle.timefd_web.specs.JsonLaws.Objects.{IsNumber64, IsWord, number_member, text_member}

-- What a result holds: one with the end of a part, and one without it.
pub data Result : Type 0 where
  fault : Bool → Text → Text → ℕ → ℕ → ℕ → ℕ → Text → Text → Option Text → Text → Result
  note : Text → Text → ℕ → ℕ → Text → Text → Result

-- The result after a comma.
abbrev pub result_text : Result → Text
result_text (fault further code file line column end_line end_column message help replacement level) =
    drawing.result further code file line column end_line end_column message help replacement level
result_text (note code file line column message level) = drawing.note_result code file line column message level

abbrev pub words : Text → Json
words text = object (text_member (codes "text") text no_members)

abbrev pub file_value : Text → Json
file_value file = object (text_member (codes "uri") (uri file) no_members)

-- Where a result is: the start of a region, and its end if it has one.
abbrev pub location : Text → ℕ → ℕ → Members → Json
location file line column ends =
    object (member (codes "physicalLocation") (object (member (codes "artifactLocation") (file_value file)
    (member (codes "region") (object (number_member (codes "startLine") line
    (number_member (codes "startColumn") column ends))) no_members))) no_members)

abbrev pub only : Json → Json
only value = array (item value no_items)

abbrev pub ends : ℕ → ℕ → Members
ends line column = number_member (codes "endLine") line (number_member (codes "endColumn") column no_members)

abbrev pub deleted : ℕ → ℕ → ℕ → ℕ → Json
deleted line column end_line end_column =
    object (number_member (codes "startLine") line (number_member (codes "startColumn") column (ends end_line end_column)))

-- The fix puts a word in place of the region.
abbrev pub fix_value : Text → ℕ → ℕ → ℕ → ℕ → Text → Text → Json
fix_value file line column end_line end_column help word =
    object (member (codes "description") (words help) (member (codes "artifactChanges")
    (only (object (member (codes "artifactLocation") (file_value file) (member (codes "replacements")
    (only (object (member (codes "deletedRegion") (deleted line column end_line end_column)
    (member (codes "insertedContent") (words word) no_members)))) no_members)))) no_members))

abbrev pub fixes_member : Text → ℕ → ℕ → ℕ → ℕ → Text → Option Text → Members → Members
fixes_member file line column end_line end_column help None others = others
fixes_member file line column end_line end_column help (Some word) others =
    member (codes "fixes") (only (fix_value file line column end_line end_column help word)) others

abbrev pub further_member : Bool → Members
further_member true = member (codes "properties") (object (member (codes "further") (boolean true) no_members)) no_members
further_member false = no_members

abbrev pub begun : Text → Text → Text → Json → Members → Json
begun code level message at others =
    object (text_member (codes "ruleId") code (text_member (codes "level") level
    (member (codes "message") (words message) (member (codes "locations") (only at) others))))

abbrev pub result_value : Result → Json
result_value (fault further code file line column end_line end_column message help replacement level) =
    begun code level message (location file line column (ends end_line end_column))
    (fixes_member file line column end_line end_column help replacement (further_member further))
result_value (note code file line column message level) =
    begun code level message (location file line column no_members) no_members

-- Its texts are UTF-8, and its numbers are those of a `u64`.
abbrev pub IsProper : Result → Type 0
IsProper (fault further code file line column end_line end_column message help replacement level) =
    IsUtf8 code × IsUtf8 file × IsNumber64 line × IsNumber64 column × IsNumber64 end_line × IsNumber64 end_column
    × IsUtf8 message × IsUtf8 help × IsWord replacement × IsUtf8 level
IsProper (note code file line column message level) =
    IsUtf8 code × IsUtf8 file × IsNumber64 line × IsNumber64 column × IsUtf8 message × IsUtf8 level

-- A result without the comma before it is JSON, and has exactly these keys and values.
abbrev pub ResultsAreJson : Type 0
ResultsAreJson = (r : Result) → IsProper r → IsJson (drop 1 (result_text r)) (result_value r)
