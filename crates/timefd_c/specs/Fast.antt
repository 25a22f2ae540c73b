-- What is appended of a node at once.
use Rattle.std.specs.Prelude.{ℕ, ◌≡◌, ◌+◌, ◌≤◌, List, Some, None, Ok, length, take, ⊤}
use Rattle.timefd_c.specs.declared.answer.TheConstants.{ACCEPTED}
use Rattle.timefd_c.specs.declared.format_answer.FormatAnswer.{FormatAnswer}
use Rattle.timefd_c.specs.Formats.{silent}
use Rattle.timefd_c_nodes.specs.declared.node.RawNode.{RawNode}
use Rattle.timefd_c_nodes.specs.Formatting.Forward.{role_text}
use Rattle.timefd_c_nodes.specs.Formatting.Nodes.{node_fault, node_trees}
use Rattle.timefd_c_nodes.specs.Formatting.Parts.{role_in}
use Rattle.timefd_date_format.specs.Appends.{TriesToAppend}
use Rattle.timefd_date_format.specs.Written.{written_all}
use Rattle.timefd_date_moment.specs.declared.moment.Moment.{Moment}
use Rattle.timefd_lang_component.specs.Tree.{Text, trees}
use Rattle.timefd_lang_node_list.specs.Nodes.{Role, text, shown, together, perhaps, either}

-- a part without members
abbrev pub IsLeaf : Role → Type 0
IsLeaf (text bytes) = ⊤
IsLeaf (shown c) = ⊤
IsLeaf (together count) = ⊥
IsLeaf (perhaps format) = ⊥
IsLeaf (either count) = ⊥

-- These bytes were appended, and there are so many of them.
abbrev pub IsTextAppended : Text → Text → ℕ → Text → ℕ → Type 0
IsTextAppended bytes old at new len = TriesToAppend (Ok bytes) old at new (Some (at + len))

-- The node has no members, and what it shows was appended: so many bytes.
pub record IsLeafAppended (m : Moment) (literals : Text) (n : RawNode) (old : Text) (at : ℕ) (new : Text) (len : ℕ)
    : Type 0 where
  pub role : Role
  pub is : role_in literals n ≡ Some role
  pub leaf : IsLeaf role
  pub puts : TriesToAppend (role_text m role) old at new (Some (at + len))

-- The nodes are a description, and what they show is the front of the room.
pub record IsWhole (m : Moment) (literals : Text) (nodes : List RawNode) (room : Text) (end : ℕ) : Type 0 where
  pub sound : node_fault literals nodes ≡ None
  pub shows : written_all m (trees (node_trees literals nodes)) ≡ Ok (take end room)
  pub within : end ≤ length room

-- the answer if so many bytes were written
abbrev pub written_answer : ℕ → FormatAnswer
written_answer len = record (silent ACCEPTED len) { written = len }
