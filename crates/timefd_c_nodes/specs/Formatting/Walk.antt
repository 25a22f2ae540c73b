-- What a walk from the last node to the first counts.
use Rattle.std.specs.Prelude.{ℕ, ◌+◌, ◌-◌, nat_lt, if◌then◌else◌, List, []}
use Rattle.timefd_lang_component.specs.Tree.{Tree}
use Rattle.timefd_lang_node_list.specs.Leaves.{role_leaves, unwritten}
use Rattle.timefd_lang_node_list.specs.Nodes.{Role, arity}

-- how many trees have to be in front of a node, if `need` trees are wanted of which the last is its own
abbrev pub needed : ℕ → Role → ℕ
needed need r = need - 1 + arity r

-- how many of the last trees in front of a node aren't written, if `skip` of the last trees up to its own
-- aren't
abbrev pub skipped : ℕ → Role → ℕ
skipped skip r = if nat_lt 0 skip then skip - 1 + arity r else unwritten r

-- the written parts that a node is by itself
abbrev pub leaves_here : ℕ → Role → List Tree
leaves_here skip r = if nat_lt 0 skip then [] else role_leaves r
