-- What is known about trees side by side.
use Rattle.std.specs.Prelude.{ℕ, ◌≡◌, ◌+◌, ◌-◌, ◌^◌, List, [], ◌∷◌, Option, Some, None, Bool, IsTrue}
use Rattle.std.specs.Coded.{→_prop}
use Rattle.std.proofs.Props.{props}
use Rattle.timefd_lang_node_list.specs.declared.tally.Tally.{Tally}
use Rattle.timefd_lang_node_list.specs.Nodes.{kept_bytes}
use Rattle.timefd_lang_component.specs.Reserved.{reserve, reserve_all, reserve_first, trees_count, within}
use Rattle.timefd_lang_component.specs.Tree.{Tree, trees}

-- what a node keeps of a sum
abbrev pub kept_of : Option ℕ → ℕ
kept_of (Some bytes) = bytes
kept_of None = 2 ^ 64 - 1

-- a sum and this many bytes more, if that fits a `usize`
abbrev pub sum_within : Option ℕ → ℕ → Option ℕ
sum_within (Some sum) bytes = within (2 ^ 64 - 1) (sum + bytes)
sum_within None bytes = None

-- the sum of what the nodes of these trees keep
abbrev pub kept_sum : List Tree → Option ℕ
kept_sum [] = Some 0
kept_sum (t ∷ ts) = sum_within (kept_sum ts) (kept_bytes (reserve t))

pub record IsTally (ts : List Tree) (t : Tally) : Type 0 where
  pub nodes : t.nodes ≡ trees_count (trees ts)
  pub bytes : t.bytes ≡ kept_sum ts
  pub first : t.first ≡ kept_bytes (reserve_first (trees ts))

-- the number is what is kept of the bytes that these trees reserve, if that is known
abbrev pub IsSum : List Tree → Bool → ℕ → Type 0
IsSum ts known sum = IsTrue known → sum ≡ kept_bytes (reserve_all (trees ts))

pub IsSum-prop : (ts : List Tree) (known : Bool) (sum : ℕ) → IsProp (IsSum ts known sum)
IsSum-prop ts known sum = →_prop (Prim.hlevel props)
