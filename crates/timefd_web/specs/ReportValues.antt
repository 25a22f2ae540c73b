-- The values of the objects that report on a text, and on a text that is read.
use Rattle.std.specs.Prelude.{ℕ, true, false, List, Option, Some, None, codes, map, string_bytes, IsUtf8, ⊤}
use Rattle.std.specs.declared.alloc.Global.{Global}
use Rattle.std.specs.declared.string.String.{String}
use Rattle.json.specs.Json.{Json, null, object, no_members, member}
use Rattle.timefd_parse.specs.Tree.{Text}
use Rattle.timefd_lint_explain.specs.declared.explain.Explanation.{Explanation}
use Rattle.timefd_lint_explain.specs.declared.node.ShownNode.{ShownNode}
use Rattle.timefd_web.specs.JsonLaws.Logs.{All}
use Rattle.timefd_web.specs.JsonLaws.Meaning.{IsJson}
use Rattle.timefd_web.specs.JsonLaws.Objects.{text_member, number_member, IsNumber64}
use Rattle.timefd_date_moment.specs.Display.{moment_text}
use Rattle.timefd_date_moment.specs.declared.moment.Moment.{Moment}
use Rattle.timefd_date_moment.specs.declared.fields.fault.ReadError.{ReadError}
use Rattle.timefd_date_moment.specs.Reading.Sentences.{sentence}
use Rattle.timefd_date_moment.specs.declared.reading.error.ValueError.{ValueError}
use Rattle.timefd_web.specs.declared.later.Later.{Later}
use Rattle.timefd_web.specs.Objects.{accepted_object, kind_name, refusal}
use Rattle.timefd_web.specs.Readings.{component_in, moment_object, no_description, sentence_here, unread_object, value_object}
use Rattle.timefd_web.specs.Values.{list_member, truth_member}

abbrev pub refusal_value : Text → Text → Text → Text → ℕ → ℕ → Json
refusal_value code message help nearest start end =
    object (truth_member (codes "accepted") false (text_member (codes "code") code
    (text_member (codes "message") message (text_member (codes "help") help
    (text_member (codes "nearest") nearest (number_member (codes "start") start
    (number_member (codes "end") end no_members)))))))

abbrev pub node_value : ShownNode → Json
node_value n =
    object (number_member (codes "depth") n.depth (number_member (codes "start") n.start
    (number_member (codes "end") n.end (number_member (codes "bytes") n.bytes
    (text_member (codes "kind") (kind_name n.kind)
    (text_member (codes "words") (string_bytes n.words)
    (text_member (codes "example") (string_bytes n.example) no_members)))))))

-- a text, or null
abbrev pub optional_value : Option (String Global) → Json
optional_value None = null
optional_value (Some text) = Json.string (string_bytes text)

abbrev pub accepted_value : ℕ → List Json → Option (String Global) → Option (String Global) → Text → Json
accepted_value bytes nodes written two three =
    object (truth_member (codes "accepted") true (number_member (codes "bytes") bytes
    (list_member (codes "nodes") nodes (member (codes "written") (optional_value written)
    (member (codes "version_2") (optional_value two)
    (text_member (codes "version_3") three no_members))))))

abbrev pub moment_value : Moment → Json
moment_value m =
    object (truth_member (codes "read") true (text_member (codes "moment") (moment_text m) no_members))

abbrev pub unread_value : ReadError → Json
unread_value u =
    object (truth_member (codes "read") false (text_member (codes "message") (sentence_here u.reason)
    (text_member (codes "component") (component_in u.reason)
    (number_member (codes "start") u.index no_members))))

abbrev pub value_value : ValueError → Json
value_value v =
    object (truth_member (codes "read") false (text_member (codes "message") (sentence v) no_members))

abbrev pub nothing_value : Json
nothing_value = object (truth_member (codes "read") false no_members)

-- What is written of these is UTF-8, and each number is one of 64 bits.

abbrev pub IsProperNode : ShownNode → Type 0
IsProperNode n =
    IsNumber64 n.depth × IsNumber64 n.start × IsNumber64 n.end × IsNumber64 n.bytes
    × IsUtf8 (kind_name n.kind) × IsUtf8 (string_bytes n.words) × IsUtf8 (string_bytes n.example)

abbrev pub IsProperOption : Option (String Global) → Type 0
IsProperOption None = ⊤
IsProperOption (Some text) = IsUtf8 (string_bytes text)

-- Each object is JSON, and has exactly its keys and values.
pub record ReportsAreJson : Type 0 where
  pub accepted : (e : Explanation) (written : Option (String Global)) (later : Later) → IsNumber64 e.bytes
      → All IsProperNode e.nodes.items → IsProperOption written → IsProperOption later.version_2
      → IsUtf8 (string_bytes later.version_3)
      → IsJson (accepted_object e written later)
      (accepted_value e.bytes (map node_value e.nodes.items) written later.version_2 (string_bytes later.version_3))
  pub refused : (code message help nearest : Text) (start end : ℕ) → IsUtf8 code → IsUtf8 message
      → IsUtf8 help → IsUtf8 nearest → IsNumber64 start → IsNumber64 end
      → IsJson (refusal code message help nearest start end) (refusal_value code message help nearest start end)
  pub moment : (m : Moment) → IsUtf8 (moment_text m) → IsJson (moment_object m) (moment_value m)
  pub unread : (u : ReadError) → IsUtf8 (sentence_here u.reason) → IsUtf8 (component_in u.reason)
      → IsNumber64 u.index → IsJson (unread_object u) (unread_value u)
  pub value : (v : ValueError) → IsUtf8 (sentence v) → IsJson (value_object v) (value_value v)
  pub no_description : IsJson no_description nothing_value
