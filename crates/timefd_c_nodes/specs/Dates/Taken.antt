-- One step of the quick reader.
use Rattle.std.specs.Prelude.{ℕ, ◌≡◌, ◌≤◌, ◌+◌, ◌-◌, drop, length, Option, Some, None, Ok, true}
use Rattle.timefd_c_nodes.specs.declared.dates.fast.walk.Taken.{Taken}
use Rattle.timefd_c_nodes.specs.Formatting.Literals.{is_textual}
use Rattle.timefd_c_nodes.specs.Formatting.Parts.{role_in}
use Rattle.timefd_c_nodes.specs.declared.node.RawNode.{RawNode}
use Rattle.timefd_lang_component.specs.Modern.{modern}
use Rattle.timefd_lang_component.specs.Tree.{Text, component, literal}
use Rattle.timefd_lang_node_list.specs.Nodes.{Role, text, shown, together, perhaps, either, arity}
use Rattle.timefd_date_moment.specs.declared.fields.short.Numbers.{Numbers}
use Rattle.timefd_date_moment.specs.Fields.Reads.{Point, at, read}
use Rattle.timefd_date_moment.specs.Fields.Short.{fields_with}

-- What a part reads by itself. Members of a compound were read before.
abbrev pub ReadsRole : Role → Point → Point → Type 0
ReadsRole (text bytes) p q = read (literal bytes) p ≡ Ok q
ReadsRole (shown c) p q = read (component (modern c)) p ≡ Ok q
ReadsRole (together count) p q = q ≡ p
ReadsRole (perhaps format) p q = ⊥
ReadsRole (either count) p q = ⊥

-- The node is part of a description, and reads this many bytes at the start. The numbers then have what it
-- read. There were `count` trees before it.
pub record IsTaken (literals : Text) (n : RawNode) (left : Text) (old : Numbers) (count : ℕ) (r : Taken) : Type 0 where
  pub role : Role
  pub is : role_in literals n ≡ Some role
  pub textual : is_textual role ≡ true
  pub fits : arity role ≤ count
  pub counted : r.count ≡ count - arity role + 1
  pub within : r.len ≤ length left
  pub reads : ReadsRole role (at left (fields_with old)) (at (drop r.len left) (fields_with r.numbers))

-- what one tree more reads
abbrev pub one_more : Option (ℕ × Numbers) → ℕ → Option Taken
one_more None count = None
one_more (Some r) count = Some (record { len = r.0; numbers = r.1; count = count + 1 })
