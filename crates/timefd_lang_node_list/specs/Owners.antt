-- Which nodes own their text.
use Rattle.std.specs.Prelude.{Bool, true, false, List}
use Rattle.std.specs.Bool.{IsFalse}
use Rattle.std.specs.Coded.{→_prop}
use Rattle.std.specs.List.{list_any}
use Rattle.std.proofs.Props.{props}
use Rattle.timefd_lang_node_list.specs.declared.node.Node.{Node}
use Rattle.timefd_lang_node_list.specs.declared.node.Node.TheVariants as node
use Rattle.timefd_lang_node_list.specs.Nodes.{Role, text, shown, together, perhaps, either}

-- whether it owns its text
abbrev pub owns_text : Node → Bool
owns_text (node.Literal borrowed) = false
owns_text (node.OwnedLiteral owned) = true
owns_text (node.Component c kept) = false
owns_text (node.Compound m) = false
owns_text (node.Optional format inner kept) = false
owns_text (node.First m) = false

-- whether it is a text
abbrev pub is_text : Role → Bool
is_text (text bytes) = true
is_text (shown c) = false
is_text (together count) = false
is_text (perhaps format) = false
is_text (either count) = false

-- a flag that says that none of these owns its text is right
abbrev pub IsFlag : Bool → List Node → Type 0
IsFlag owns ns = IsFalse owns → IsFalse (list_any owns_text ns)

pub IsFlag-prop : (owns : Bool) (ns : List Node) → IsProp (IsFlag owns ns)
IsFlag-prop owns ns = →_prop (Prim.hlevel props)
