-- What a node is as part of a description.
use Rattle.std.specs.Prelude.{ℕ, ◌+◌, ◌==◌, nat_lt, if◌then◌else◌, Bool, Option, Some, None, take, drop, length}
use Rattle.timefd_lang_component.specs.declared.component.Component.{Component}
use Rattle.timefd_lang_component.specs.Tree.{Text}
use Rattle.timefd_lang_node_list.specs.Nodes.{Role, text, shown, together, perhaps, either}
use Rattle.timefd_c_nodes.specs.declared.node.RawNode.{RawNode}
use Rattle.timefd_c_nodes.specs.Decoding.{component_of, format_of}
use Rattle.timefd_c_nodes.specs.declared.formatting.part.RawNodeKind.{RawNodeKind}
use Rattle.timefd_c_nodes.specs.declared.formatting.part.RawNodeKind.TheVariants as kind
use Rattle.timefd_c_nodes.specs.declared.formatting.part.WritingPart.{WritingPart}
use Rattle.timefd_c_nodes.specs.declared.formatting.part.WritingPart.TheVariants as part

abbrev pub role : WritingPart → Role
role (part.Literal bytes) = text bytes.now
role (part.Component c) = shown c
role (part.Compound count) = together count
role (part.Optional format) = perhaps format
role (part.First count) = either count

abbrev pub part_role : Option WritingPart → Option Role
part_role None = None
part_role (Some p) = Some (role p)

-- Bytes of the literals, if all of them are there.
abbrev pub literal_role : ℕ → ℕ → Text → Option Role
literal_role start count literals =
    if nat_lt (length literals) (start + count) then None
    else Some (text (take count (drop start literals)))

abbrev pub shown_role : Option Component → Option Role
shown_role None = None
shown_role (Some c) = Some (shown c)

abbrev pub perhaps_role : Option Bool → Option Role
perhaps_role None = None
perhaps_role (Some format) = Some (perhaps format)

-- A component, if its numbers mean something.
abbrev pub component_role : RawNode → Option Role
component_role n = shown_role (component_of n)

abbrev pub kind_of : ℕ → Option RawNodeKind
kind_of n =
    if n == 1 then Some kind.Literal else if n == 2 then Some kind.Component
    else if n == 3 then Some kind.Compound else if n == 4 then Some kind.Optional
    else if n == 5 then Some kind.First else None

-- What a node of this kind is, by its literal, its component, the number of its members and its flag.
abbrev pub by_kind : Option RawNodeKind → Option Role → Option Role → ℕ → Option Role → Option Role
by_kind None l c n o = None
by_kind (Some kind.Literal) l c n o = l
by_kind (Some kind.Component) l c n o = c
by_kind (Some kind.Compound) l c n o = Some (together n)
by_kind (Some kind.Optional) l c n o = o
by_kind (Some kind.First) l c n o = Some (either n)

-- What a node is, if its bytes are all among the literals and its numbers mean something.
abbrev pub role_in : Text → RawNode → Option Role
role_in literals n =
    by_kind (kind_of n.what) (literal_role n.start n.count literals) (component_role n) n.count
    (perhaps_role (format_of n))
