-- What is known about trees side by side, with one more before them.
use Rattle.std.proofs.Common.{◌≡◌, ◌∙◌, ℕ, ◌+◌, ◌-◌, ◌^◌, List, [], ◌∷◌, Option, Some, None, refl, arith}
use Rattle.std.proofs.lemmas.Bool.Decides.{nat_tests}
use Rattle.timefd_lang_node_list.specs.declared.tally.Tally.{Tally}
use Rattle.timefd_lang_node_list.specs.Nodes.{kept_bytes}
use Rattle.timefd_lang_component.specs.Reserved.{reserve, reserve_all, tree_count, within}
use Rattle.timefd_lang_node_list.specs.Tallies.{IsTally, kept_of, kept_sum, sum_within}
use Rattle.timefd_lang_component.specs.Tree.{Tree, trees}

kept_within : (bytes : ℕ) → kept_of (within (2 ^ 64 - 1) bytes) ≡ kept_bytes bytes
kept_within bytes = grind (arith, nat_tests)

kept_more : (sum : Option ℕ) (rest bytes : ℕ) → kept_of sum ≡ kept_bytes rest
    → kept_of (sum_within sum (kept_bytes bytes)) ≡ kept_bytes (bytes + rest)
kept_more (Some s) rest bytes h = kept_within (s + kept_bytes bytes) ∙ omega (arith, h)
kept_more None rest bytes h = omega (arith, h)

-- what is kept of the sum is what their compound keeps
pub kept_of_all : (ts : List Tree) → kept_of (kept_sum ts) ≡ kept_bytes (reserve_all (trees ts))
kept_of_all [] = refl
kept_of_all (t ∷ ts) = kept_more (kept_sum ts) (reserve_all (trees ts)) (reserve t) (kept_of_all ts)

pub tally_in_front : (ts us : List Tree) (u : Tree) (t v : Tally) (nodes bytes : ℕ) → IsTally ts t
    → us ≡ u ∷ ts → nodes ≡ tree_count u → bytes ≡ kept_bytes (reserve u)
    → v ≡ record { nodes = t.nodes + nodes; bytes = sum_within t.bytes bytes; first = bytes }
    → IsTally us v
tally_in_front ts us u t v nodes bytes h e n b is = record {
  nodes = rw (e, is) (omega (arith, h.nodes, n));
  bytes = rw (e, is, h.bytes, b) refl;
  first = rw (e, is, b) refl;
}
