use Rattle.std.proofs.Common.{rules, ◌≡◌, [], ◌∷◌, refl}
use Rattle.timefd_lang_node_list.specs.Turns.{walk_trees}
use Rattle.timefd_lang_node_list.specs.Views.{view_tree}
use Rattle.timefd_c_nodes.proofs.WithinLemmas.{part_past, part_step}
use Rattle.timefd_c_nodes.proofs.view.write_view.Goals as goal

pub returns-in_err-at-clause-none : goal.returns-in_err-at-clause-none
returns-in_err-at-clause-none c = λ none.
    let one_more : walk_trees c.parts.part-iterator ≡ view_tree c.in-Some.part ∷ walk_trees
    c.next.new.self = search rules in
    part_past _ (view_tree c.in-Some.part ∷ []) (walk_trees c.next.new.self) _ _ _ _ _ _ _ one_more
    c.parts.invariant (c.in_err-at.ensures.none refl)

pub parts-preserved : goal.parts-preserved
parts-preserved c =
    let one_more : walk_trees c.parts.part-iterator ≡ view_tree c.in-Some.part ∷ walk_trees
    c.next.new.self = search rules in
    part_step _ (view_tree c.in-Some.part ∷ []) (walk_trees c.next.new.self) _ _ _ _ _ _ _ _ _ _
    one_more c.parts.invariant c.in_ok-at.ensures.some
