-- What a node with members says about them, and what the node of one tree keeps.
use Rattle.std.proofs.Common.{◌≡◌, ◌∙◌, ℕ, ◌-◌, ◌^◌, ◌≤◌, Bool, true, false, if◌then◌else◌, List, [], ◌∷◌, length, refl, sym, ap, subst}
use Rattle.std.proofs.Common.{arith}
use Rattle.timefd_lang_node_list.specs.declared.node.Members.{Members}
use Rattle.timefd_lang_node_list.specs.declared.node.Node.TheVariants as node
use Rattle.timefd_lang_node_list.specs.declared.tally.Tally.{Tally}
use Rattle.timefd_lang_node_list.specs.Nodes.{part, perhaps, ending, kept_bytes, last_kept, Fits}
use Rattle.timefd_lang_component.specs.Reserved.{reserve, reserve_first}
use Rattle.timefd_lang_node_list.specs.Tallies.{IsTally, kept_of}
use Rattle.timefd_lang_component.specs.Tree.{Tree, optional, trees, pack}
use Rattle.timefd_lang_node_list.proofs.NodeLemmas.{length-ending}
use Rattle.timefd_lang_node_list.proofs.TallyLemmas.{kept_of_all}

-- What a node with members says about them.
pub compound_fits : (ts : List Tree) (count : ℕ) (t : Tally) (m : Members) → count ≤ length ts
    → IsTally (ending count ts) t
    → m ≡ record { count = count; nodes = t.nodes; bytes = kept_of t.bytes }
    → Fits ts (part (node.Compound m))
compound_fits ts count t m h i is =
    subst (λ x. Fits ts (part (node.Compound x))) (sym is) (
      h,
      i.nodes,
      ap kept_of i.bytes ∙
          kept_of_all (ending count ts),
    )

pub first_fits : (ts : List Tree) (count : ℕ) (t : Tally) (m : Members) → count ≤ length ts
    → IsTally (ending count ts) t
    → m ≡ record { count = count; nodes = t.nodes; bytes = t.first } → Fits ts (part (node.First m))
first_fits ts count t m h i is = subst (λ x. Fits ts (part (node.First x))) (sym is)
    (h, i.nodes, i.first)

pub only_first : (us : List Tree) → length us ≡ 1 → reserve_first (trees us) ≡ reserve (pack us)
only_first [] h = absurd (omega (arith, h))
only_first (u ∷ []) h = refl
only_first (u ∷ v ∷ us) h = absurd (omega (arith, h))

optional_bytes : (format : Bool) (us : List Tree) (n : ℕ) → length us ≡ 1
    → n ≡ kept_bytes (reserve_first (trees us))
    → (if format then n else 0) ≡ kept_bytes (reserve (optional format (pack us)))
optional_bytes true us n h e = e ∙ ap kept_bytes (only_first us h)
optional_bytes false us n h e = refl

pub optional_fits : (ts : List Tree) (format : Bool) (t : Tally) (bytes : ℕ) → 1 ≤ length ts
    → IsTally (ending 1 ts) t → bytes ≡ (if format then t.first else 0)
    → Fits ts (record { role = perhaps format; nodes = t.nodes; bytes = bytes })
optional_fits ts format t bytes h i e =
    (h, i.nodes, e ∙ optional_bytes format (ending 1 ts) t.first (length-ending 1 ts h) i.first)

-- The one tree of a description.
pub kept_of_one : (ts : List Tree) → length ts ≤ 1 → reserve (pack ts) ≤ 2 ^ 64 - 1
    → last_kept ts ≡ reserve (pack ts)
kept_of_one [] h g = refl
kept_of_one (t ∷ []) h g = omega (arith, g)
kept_of_one (t ∷ u ∷ ts) h g = absurd (omega (arith, h))
