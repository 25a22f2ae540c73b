use Rattle.std.proofs.Common.{◌≡◌, ◌∙◌, ◌∷◌, [], ◌⊎◌, inl, inr, Bool, ℕ, sym, ap}
use Rattle.timefd_lang_node_list.specs.declared.node.Members.{Members}
use Rattle.timefd_lang_node_list.specs.declared.node.Node.{Node}
use Rattle.timefd_lang_node_list.specs.declared.node.Node.TheVariants.{Compound, Optional, First}
use Rattle.timefd_lang_component.specs.Tree.{component, literal}
use Rattle.timefd_lang_node_list.specs.Nodes.{part}
use Rattle.timefd_lang_node_list.specs.Leaves.{role_leaves}
use Rattle.timefd_lang_node_list.proofs.LeafLemmas.{at_leaf, at_inner}
use Rattle.timefd_lang_node_list.proofs.leaves.Leaves.split_last.Goals as goal

pub returns-in-Literal : goal.returns-in-Literal
returns-in-Literal c =
    at_leaf _ _ _ _ (part c.last_node.result.1.now) _ c.nodes.invariant.1 c.last_node.ensures.trees
    (ap (λ n. role_leaves (part n).role) c.in-Literal.is) c.new.ensures

pub returns-in-OwnedLiteral : goal.returns-in-OwnedLiteral
returns-in-OwnedLiteral c =
    at_leaf _ _ _ _ (part c.last_node.result.1.now) _ c.nodes.invariant.1 c.last_node.ensures.trees
    (ap (λ n. role_leaves (part n).role) c.in-OwnedLiteral.is ∙ ap (λ x. literal x ∷ []) (sym c.as_str.ensures.value))
    c.new-in-OwnedLiteral.ensures

pub returns-in-Component : goal.returns-in-Component
returns-in-Component c =
    at_leaf _ _ _ _ (part c.last_node.result.1.now) _ c.nodes.invariant.1 c.last_node.ensures.trees
    (ap (λ n. role_leaves (part n).role) c.in-Component.is ∙ ap (λ x. component x ∷ []) (sym c.modern.ensures.table))
    c.new-in-Component.ensures

inner : (n : Node) → ((m : Members) × (n ≡ Compound m))
    ⊎ (((f : Bool) × (a : ℕ) × (b : ℕ) × (n ≡ Optional f a b)) ⊎ ((m : Members) × (n ≡ First m)))
    → role_leaves (part n).role ≡ []
inner n (inl h) = ap (λ x. role_leaves (part x).role) h.1
inner n (inr (inl h)) = ap (λ x. role_leaves (part x).role) h.3
inner n (inr (inr h)) = ap (λ x. role_leaves (part x).role) h.1

pub nodes-preserved : goal.nodes-preserved
nodes-preserved c = (
  c.in_front-nodes.ensures.fit,
  at_inner _ _ _ _ (part c.last_node.result.1.now) c.unwritten_members.result c.nodes.invariant.1
      c.last_node.ensures.trees c.last_node.ensures.members (inner _ c.in-Compound.is)
      c.unwritten_members.ensures c.in_front-nodes.ensures.trees,
)
