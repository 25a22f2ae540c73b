-- Whether the literals of nodes are UTF-8.
use Rattle.std.specs.Prelude.{Bool, true, Option, Some, None}
use Rattle.std.specs.Str.{is_utf8}
use Rattle.timefd_lang_node_list.specs.Nodes.{Role, text, shown, together, perhaps, either}

-- whether a part is no literal, or one in UTF-8
abbrev pub is_textual : Role → Bool
is_textual (text bytes) = is_utf8 bytes
is_textual (shown c) = true
is_textual (together count) = true
is_textual (perhaps format) = true
is_textual (either count) = true

-- whether a node is not part of a description, or a part as above
abbrev pub is_text : Option Role → Bool
is_text None = true
is_text (Some r) = is_textual r
