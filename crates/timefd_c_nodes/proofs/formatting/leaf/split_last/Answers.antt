use Rattle.std.proofs.Common.{◌≡◌, ◌∙◌, ◌∷◌, [], ◌⊎◌, inl, inr, Bool, ℕ, refl, sym, ap}
use Rattle.timefd_lang_component.specs.Tree.{component}
use Rattle.timefd_lang_node_list.specs.Leaves.{role_leaves}
use Rattle.timefd_lang_node_list.proofs.LeafLemmas.{at_leaf, at_inner}
use Rattle.timefd_c_nodes.specs.declared.formatting.part.WritingPart.{WritingPart}
use Rattle.timefd_c_nodes.specs.declared.formatting.part.WritingPart.TheVariants as part
use Rattle.timefd_c_nodes.specs.Formatting.Parts.{role}
use Rattle.timefd_c_nodes.proofs.FormattingLemmas.CutLemmas.{as_part}
use Rattle.timefd_c_nodes.proofs.formatting.leaf.split_last.Goals as goal

pub returns-in-Literal-clause-leaves : goal.returns-in-Literal-clause-leaves
returns-in-Literal-clause-leaves c =
    at_leaf _ _ _ _ (as_part (role c.last_node.result.1)) _ c.nodes.invariant.1 c.last_node.ensures.trees
    (ap (λ p. role_leaves (role p)) c.in-Literal.is) refl

pub returns-in-Component-clause-leaves : goal.returns-in-Component-clause-leaves
returns-in-Component-clause-leaves c =
    at_leaf _ _ _ _ (as_part (role c.last_node.result.1)) _ c.nodes.invariant.1 c.last_node.ensures.trees
    (ap (λ p. role_leaves (role p)) c.in-Component.is ∙ ap (λ x. component x ∷ []) (sym c.modern.ensures.table))
    refl

inner : (p : WritingPart) → ((n : ℕ) × (p ≡ part.Compound n)) ⊎ (((b : Bool) × (p ≡ part.Optional b)) ⊎ ((n : ℕ) × (p ≡ part.First n)))
    → role_leaves (role p) ≡ []
inner p (inl h) = ap (λ x. role_leaves (role x)) h.1
inner p (inr (inl h)) = ap (λ x. role_leaves (role x)) h.1
inner p (inr (inr h)) = ap (λ x. role_leaves (role x)) h.1

pub nodes-preserved : goal.nodes-preserved
nodes-preserved c = (
  c.in_front-left.ensures.sound,
  at_inner _ _ _ _ (as_part (role c.last_node.result.1)) c.unwritten_members.result c.nodes.invariant.1
      c.last_node.ensures.trees c.last_node.ensures.members (inner _ c.in-Compound.is)
      c.unwritten_members.ensures c.in_front-left.ensures.trees,
)
