-- From the fields of an accepted text to its object.
use Rattle.std.proofs.Common.{◌≡◌, ◌∙◌, ◌++◌, List, [], Option, ap, codes, string_bytes}
use Rattle.std.specs.declared.alloc.Global.{Global}
use Rattle.std.specs.declared.string.String.{String}
use Rattle.timefd_parse.specs.Tree.{Text}
use Rattle.timefd_lint_drawing.specs.Json.{number_field, text_field}
use Rattle.timefd_lint_explain.specs.declared.explain.Explanation.{Explanation}
use Rattle.timefd_lint_explain.specs.declared.node.ShownNode.{ShownNode}
use Rattle.timefd_web.specs.declared.later.Later.{Later}
use Rattle.timefd_web.specs.Objects.{accepted_object, node, optional}
use Rattle.timefd_web.specs.Records.{listed}

fields : (a b c d e f o0 o1 o2 o3 o4 o5 o6 : Text) → o0 ≡ [] → o1 ≡ o0 ++ a → o2 ≡ o1 ++ b
    → o3 ≡ o2 ++ c → o4 ≡ o3 ++ d → o5 ≡ o4 ++ e → o6 ≡ o5 ++ f
    → o6 ≡ [] ++ a ++ b ++ c ++ d ++ e ++ f
fields a b c d e f o0 o1 o2 o3 o4 o5 o6 e0 e1 e2 e3 e4 e5 e6 =
    e6 ∙ ap (λ t. t ++ f) (e5 ∙ ap (λ t. t ++ e) (e4 ∙ ap (λ t. t ++ d)
    (e3 ∙ ap (λ t. t ++ c) (e2 ∙ ap (λ t. t ++ b) (e1 ∙ ap (λ t. t ++ a) e0)))))

pub object_by : (x : Explanation) (w : Option (String Global)) (l : Later)
    (o0 o1 o2 o3 o4 o5 o6 : Text) (ns : List ShownNode) (three : Text) → o0 ≡ []
    → o1 ≡ o0 ++ number_field (codes "{\"accepted\":true,\"bytes\":") x.bytes
    → o2 ≡ o1 ++ (codes ",\"nodes\":" ++ listed node ns) → ns ≡ x.nodes.items
    → o3 ≡ o2 ++ (codes ",\"written\":" ++ optional w)
    → o4 ≡ o3 ++ (codes ",\"version_2\":" ++ optional l.version_2)
    → o5 ≡ o4 ++ text_field (codes ",\"version_3\":") three → three ≡ string_bytes l.version_3
    → o6 ≡ o5 ++ codes "}" → o6 ≡ accepted_object x w l
object_by x w l o0 o1 o2 o3 o4 o5 o6 ns three e0 e1 e2 on_nodes e3 e4 e5 on_three e6 =
    fields (number_field (codes "{\"accepted\":true,\"bytes\":") x.bytes)
    (codes ",\"nodes\":" ++ listed node x.nodes.items) (codes ",\"written\":" ++ optional w)
    (codes ",\"version_2\":" ++ optional l.version_2)
    (text_field (codes ",\"version_3\":") (string_bytes l.version_3)) (codes "}")
    o0 o1 o2 o3 o4 o5 o6 e0 e1
    (e2 ∙ ap (λ list. o1 ++ (codes ",\"nodes\":" ++ listed node list)) on_nodes) e3 e4
    (e5 ∙ ap (λ text. o4 ++ text_field (codes ",\"version_3\":") text) on_three) e6
