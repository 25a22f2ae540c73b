-- How a list of nodes reads as a list of trees: each node follows its members, takes them off the
-- end of the trees so far, and puts its own tree there.
use Rattle.std.specs.Prelude.{ℕ, ◌≡◌, ◌-◌, ◌^◌, ◌≤◌, Bool, List, [], ◌∷◌, ◌++◌, length, take, drop, max, min, string_bytes, ⊤}
use Rattle.std.specs.Coded.{Unit-prop, ×_prop}
use Rattle.std.proofs.Props.{props}
use Rattle.timefd_lang_component.specs.declared.component.Component.{Component}
use Rattle.timefd_lang_node_list.specs.declared.node.Node.{Node}
use Rattle.timefd_lang_node_list.specs.declared.node.Node.TheVariants as node
use Rattle.timefd_lang_component.specs.Tree.{Text, Tree, component, literal, compound, optional, first, trees, pack}
use Rattle.timefd_lang_component.specs.Modern.{modern}
use Rattle.timefd_lang_component.specs.Reserved.{reserve, reserve_first, trees_count}

-- what a node makes from its members
pub data Role : Type 0 where
  text : Text → Role
  shown : Component → Role
  together : ℕ → Role
  perhaps : Bool → Role
  either : ℕ → Role

-- how many members that takes
abbrev pub arity : Role → ℕ
arity (text bytes) = 0
arity (shown c) = 0
arity (together count) = count
arity (perhaps format) = 1
arity (either count) = count

-- a node: what it makes, how many nodes its members have, and the bytes that it keeps
pub record Part : Type 0 where
  pub role : Role
  pub nodes : ℕ
  pub bytes : ℕ

abbrev pub part : Node → Part
part (node.Literal borrowed) = record { role = text borrowed.now; nodes = 0; bytes = length borrowed.now }
part (node.OwnedLiteral owned) = record {
  role = text (string_bytes owned);
  nodes = 0;
  bytes =
      length (string_bytes owned);
}
part (node.Component c kept) = record { role = shown c; nodes = 0; bytes = kept }
part (node.Compound m) = record { role = together m.count; nodes = m.nodes; bytes = m.bytes }
part (node.Optional format inner kept) =
    record { role = perhaps format; nodes = inner; bytes = kept }
part (node.First m) = record { role = either m.count; nodes = m.nodes; bytes = m.bytes }

-- the tree that it makes from them
abbrev pub made : Role → List Tree → Tree
made (text bytes) members = literal bytes
made (shown c) members = component (modern c)
made (together count) members = compound (trees members)
made (perhaps format) members = optional format (pack members)
made (either count) members = first (trees members)

-- the last k trees, and those before them
abbrev pub before : ℕ → List Tree → List Tree
before k ts = take (length ts - k) ts

abbrev pub ending : ℕ → List Tree → List Tree
ending k ts = drop (length ts - k) ts

-- the trees with one more node
abbrev pub grown : List Tree → Part → List Tree
grown ts p = before (arity p.role) ts ++ made p.role (ending (arity p.role) ts) ∷ []

-- the trees with these nodes added
abbrev pub grown_by : List Tree → List Part → List Tree
grown_by ts [] = ts
grown_by ts (p ∷ ps) = grown_by (grown ts p) ps

-- the bytes that a node keeps of this many
abbrev pub kept_bytes : ℕ → ℕ
kept_bytes bytes = min bytes (2 ^ 64 - 1)

-- the bytes that the node of the last tree keeps, or 0 if there is none
abbrev pub last_kept : List Tree → ℕ
last_kept ts = kept_bytes (reserve_first (trees (ending 1 ts)))

-- the bytes of the tree that reserves most
abbrev pub largest : List Tree → ℕ
largest [] = 0
largest (t ∷ ts) = max (reserve t) (largest ts)

-- its members are there, it knows how many nodes they have, and it keeps what its tree reserves
abbrev pub Fits : List Tree → Part → Type 0
Fits ts p =
    (arity p.role ≤ length ts)
    × (p.nodes ≡ trees_count (trees (ending (arity p.role) ts)))
    × (p.bytes ≡ kept_bytes (reserve (made p.role (ending (arity p.role) ts))))

-- so does each of these nodes
abbrev pub Fit : List Tree → List Part → Type 0
Fit ts [] = ⊤
Fit ts (p ∷ ps) = Fits ts p × Fit (grown ts p) ps

pub Fits-prop : (ts : List Tree) (p : Part) → IsProp (Fits ts p)
Fits-prop ts p = Prim.hlevel props

pub Fit-prop : (ts : List Tree) (ps : List Part) → IsProp (Fit ts ps)
Fit-prop ts [] = Unit-prop
Fit-prop ts (p ∷ ps) = ×_prop (Fits-prop ts p) (Fit-prop (grown ts p) ps)
