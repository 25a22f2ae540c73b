-- One step from a node to the next, in order.
use Rattle.std.specs.Prelude.{ℕ, ◌≡◌, ◌+◌, ◌-◌, ◌≤◌, [], Some, Result, Ok, ⊤}
use Rattle.timefd_lang_component.specs.Tree.{Text}
use Rattle.timefd_date_moment.specs.declared.moment.Moment.{Moment}
use Rattle.timefd_date_format.specs.declared.field.Unshown.{Unshown}
use Rattle.timefd_date_format.specs.Appends.{TriesToAppend}
use Rattle.timefd_date_format.specs.Written as written
use Rattle.timefd_lang_node_list.specs.Nodes.{Role, text, shown, together, perhaps, either, arity}
use Rattle.timefd_c_nodes.specs.declared.node.RawNode.{RawNode}
use Rattle.timefd_c_nodes.specs.Formatting.Parts.{role_in}
use Rattle.timefd_c_nodes.specs.declared.formatting.forward.Reached.{Reached}

-- what is written of a part, without its members
abbrev pub role_text : Moment → Role → Result Text Unshown
role_text m (text bytes) = Ok bytes
role_text m (shown c) = written.shown m c
role_text m (together count) = Ok []
role_text m (perhaps format) = Ok []
role_text m (either count) = Ok []

-- all of its members are written
abbrev pub IsForward : Role → Type 0
IsForward (text bytes) = ⊤
IsForward (shown c) = ⊤
IsForward (together count) = ⊤
IsForward (perhaps format) = ⊥
IsForward (either count) = ⊥

-- the node is part of a description, all of its members are written, and what it shows without them is
-- appended
pub record IsAfter (m : Moment) (literals : Text) (n : RawNode) (count : ℕ) (old : Text) (at : ℕ) (new : Text)
    (r : Reached) : Type 0 where
  pub role : Role
  pub is : role_in literals n ≡ Some role
  pub forward : IsForward role
  pub fits : arity role ≤ count
  pub counted : r.count ≡ count - arity role + 1
  pub puts : TriesToAppend (role_text m role) old at new (Some r.at)
