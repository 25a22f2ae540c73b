-- The JSON objects of a report on a text.
use Rattle.std.specs.Prelude.{ℕ, ◌++◌, [], Option, Some, None, codes, string_bytes}
use Rattle.std.specs.declared.alloc.Global.{Global}
use Rattle.std.specs.declared.string.String.{String}
use Rattle.timefd_parse.specs.Tree.{Text}
use Rattle.timefd_lint_diagnosis.specs.declared.diagnostic.Diagnostic.{Diagnostic}
use Rattle.timefd_lint_diagnosis.specs.declared.help.Help.{Help}
use Rattle.timefd_lint_diagnosis.specs.declared.help.Help.TheVariants.{Words, LeaveOut, Advice}
use Rattle.timefd_lint_drawing.specs.Drawing.{code}
use Rattle.timefd_lint_drawing.specs.HelpText.{help_text}
use Rattle.timefd_lint_drawing.specs.Json.{quoted, text_field, number_field}
use Rattle.timefd_lint_explain.specs.declared.explain.Explanation.{Explanation}
use Rattle.timefd_lint_explain.specs.declared.node.ShownNode.{ShownNode}
use Rattle.timefd_lint_explain.specs.declared.node.NodeKind.{NodeKind}
use Rattle.timefd_lint_explain.specs.declared.node.NodeKind.TheVariants as kinds
use Rattle.timefd_parse.specs.Sentences.{error_sentence}
use Rattle.timefd_web.specs.declared.later.Later.{Later}
use Rattle.timefd_web.specs.declared.refused.RefusedObject.{RefusedObject}
use Rattle.timefd_web.specs.Records.{listed}

-- the nearest allowed word, or nothing
abbrev pub nearest : Help → Text
nearest (Words position allowed (Some word)) = word.now
nearest (Words position allowed None) = []
nearest (LeaveOut key) = []
nearest (Advice words) = []

-- the fault's name, its sentence, what helps, the nearest word, and the bytes at fault
abbrev pub refusal : Text → Text → Text → Text → ℕ → ℕ → Text
refusal code message help nearest start end =
    [] ++ text_field (codes "{\"accepted\":false,\"code\":") code
    ++ text_field (codes ",\"message\":") message ++ text_field (codes ",\"help\":") help
    ++ text_field (codes ",\"nearest\":") nearest ++ number_field (codes ",\"start\":") start
    ++ number_field (codes ",\"end\":") end ++ codes "}"

abbrev pub refusal_of : RefusedObject → Text
refusal_of r = refusal r.code.now r.message.now r.help.now r.nearest.now r.start r.end

abbrev pub refused_object : Diagnostic → Text
refused_object d =
    refusal (code d) (error_sentence d.fault) (help_text d.help) (nearest d.help) d.span.start
    d.span.end

abbrev pub kind_name : NodeKind → Text
kind_name kinds.Literal = codes "literal"
kind_name kinds.Component = codes "component"
kind_name kinds.Optional = codes "optional"
kind_name kinds.First = codes "first"
kind_name kinds.Several = codes "several"
kind_name kinds.Description = codes "description"

-- a node as an object
abbrev pub node : ShownNode → Text
node n =
    [] ++ number_field (codes "{\"depth\":") n.depth ++ number_field (codes ",\"start\":") n.start
    ++ number_field (codes ",\"end\":") n.end ++ number_field (codes ",\"bytes\":") n.bytes
    ++ text_field (codes ",\"kind\":") (kind_name n.kind)
    ++ text_field (codes ",\"words\":") (string_bytes n.words)
    ++ text_field (codes ",\"example\":") (string_bytes n.example) ++ codes "}"

-- a text, or null
abbrev pub optional : Option (String Global) → Text
optional None = codes "null"
optional (Some text) = quoted (string_bytes text)

-- The reserved bytes, the nodes, what is written of the moment, and the texts in later versions.
abbrev pub accepted_object : Explanation → Option (String Global) → Later → Text
accepted_object e written later =
    [] ++ number_field (codes "{\"accepted\":true,\"bytes\":") e.bytes
    ++ (codes ",\"nodes\":" ++ listed node e.nodes.items)
    ++ (codes ",\"written\":" ++ optional written)
    ++ (codes ",\"version_2\":" ++ optional later.version_2)
    ++ text_field (codes ",\"version_3\":") (string_bytes later.version_3) ++ codes "}"
